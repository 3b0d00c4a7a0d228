-- `table::tables::takes` meets its contract. Assumes nothing.
use borrow.Author.Rules.{rules}
use Rattle.number.proofs.Picks.{picks}
use Rattle.table.specs.Tables.{takes}
use Rattle.table.proofs.tables.takes.Goals as goal

pub returns-then-kind-eq-MIXED : goal.returns-then-kind-eq-MIXED
unfolding takes
returns-then-kind-eq-MIXED c = search (picks, rules)

pub returns-else-kind-eq-MIXED : goal.returns-else-kind-eq-MIXED
unfolding takes
returns-else-kind-eq-MIXED c = search (picks, rules)
