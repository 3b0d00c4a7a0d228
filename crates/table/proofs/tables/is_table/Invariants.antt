use Rattle.table.specs.Tables.{is_table}
use Rattle.table.proofs.Listing.{Listing}
use Rattle.table.proofs.tables.is_table.Given as goal

abbrev pub invariant-loop-k : goal.invariant-loop-k
invariant-loop-k l = Listing (is_table l.kind l.numbers) l.kind l.numbers l.before l.k
