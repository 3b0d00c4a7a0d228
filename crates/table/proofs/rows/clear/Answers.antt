-- `table::rows::clear` meets its contract. Assumes nothing.
use native.Mathlib.Omega.{arith}
use Rattle.std.proofs.lemmas.Grind.{common_steps}
use Rattle.table.specs.Rows.{cleared}
use Rattle.table.proofs.rows.clear.Goals as goal

pub returns : goal.returns
unfolding cleared
returns c = grind (arith, common_steps)
