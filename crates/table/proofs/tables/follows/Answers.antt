-- `table::tables::follows` meets its contract. Assumes nothing.
use native.Mathlib.Omega.{arith}
use Rattle.std.proofs.lemmas.Grind.{common_steps}
use Rattle.table.specs.Tables.{follows}
use Rattle.table.proofs.tables.follows.Goals as goal

pub returns-then-row-ne1 : goal.returns-then-row-ne1
unfolding follows
returns-then-row-ne1 c = grind (arith, common_steps)

pub returns-else-row-ne1 : goal.returns-else-row-ne1
unfolding follows
returns-else-row-ne1 c = grind (arith, common_steps)

pub returns : goal.returns
unfolding follows
returns c = grind (arith, common_steps)
