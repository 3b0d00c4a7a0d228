-- `table::tables::proper` meets its contract. Assumes nothing.
use native.Mathlib.Omega.{arith}
use Rattle.std.proofs.lemmas.Grind.{common_steps}
use Rattle.table.specs.Tables.{proper}
use Rattle.table.proofs.tables.proper.Goals as goal

pub returns-then-takes : goal.returns-then-takes
unfolding proper
returns-then-takes c = grind (arith, common_steps)

pub returns-else-takes : goal.returns-else-takes
unfolding proper
returns-else-takes c = grind (arith, common_steps)

pub returns-in_default : goal.returns-in_default
unfolding proper
returns-in_default c = grind (arith, common_steps)
