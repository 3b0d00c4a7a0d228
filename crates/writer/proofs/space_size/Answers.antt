-- `writer::space_size` meets its contract. Assumes nothing.
use mathlib.Core.Path.{refl}
use native.Mathlib.Omega.{arith}
use Rattle.writer.proofs.Fronts.{space_two, space_three}
use Rattle.writer.proofs.space_size.Goals as goal

pub returns-then-space-eq0 : goal.returns-then-space-eq0
returns-then-space-eq0 c = rw (space_two _ c.if-space-eq0.true) (refl, omega arith)

pub returns : goal.returns
returns c = rw (space_three _ c.if-space-eq0.false) (refl, omega arith)
