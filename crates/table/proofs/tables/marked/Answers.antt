-- `table::tables::marked` meets its contract. Assumes nothing.
use native.Mathlib.Omega.{arith}
use Rattle.std.proofs.lemmas.Grind.{common_steps}
use Rattle.table.specs.Tables.{marked}
use Rattle.table.proofs.tables.marked.Goals as goal

pub returns-then-le : goal.returns-then-le
unfolding marked
returns-then-le c = grind (arith, common_steps)

pub returns-else-le : goal.returns-else-le
unfolding marked
returns-else-le c = grind (arith, common_steps)

pub returns-then-eq : goal.returns-then-eq
unfolding marked
returns-then-eq c = grind (arith, common_steps)

pub returns-else-eq : goal.returns-else-eq
unfolding marked
returns-else-eq c = grind (arith, common_steps)
