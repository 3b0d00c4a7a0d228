-- `writer::families::rowless` meets its contract. Assumes nothing.
use native.Mathlib.Omega.{arith}
use Rattle.std.proofs.lemmas.Grind.{common_steps}
use Rattle.writer.specs.Writer.{rowless}
use Rattle.writer.proofs.families.rowless.Goals as goal

pub returns-then-eq : goal.returns-then-eq
unfolding rowless
returns-then-eq c = grind (arith, common_steps)

pub returns-else-eq : goal.returns-else-eq
unfolding rowless
returns-else-eq c = grind (arith, common_steps)
