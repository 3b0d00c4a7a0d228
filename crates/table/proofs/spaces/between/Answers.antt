-- `table::spaces::between` meets its contract. Assumes nothing.
use native.Mathlib.Omega.{arith}
use Rattle.std.proofs.lemmas.Grind.{common_steps}
use Rattle.table.specs.Spaces.{between}
use Rattle.table.proofs.spaces.between.Goals as goal

pub returns : goal.returns
unfolding between
returns c = grind (arith, common_steps)
