use Rattle.table.specs.Rows.{room, rows_all}
use Rattle.path.proofs.Counting.{Tallying}
use Rattle.path.proofs.inherits.count_all.Given as goal

abbrev pub invariant-loop-k : goal.invariant-loop-k
invariant-loop-k l = Tallying (rows_all l.issuer) l.own (room l.own) l.k l.total
