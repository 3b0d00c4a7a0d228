-- `number::shape::is_prefix` meets its contract. Assumes nothing.
use mathlib.Core.Path.{ap, ◌∙◌}
use Rattle.std.specs.Prelude.{Option, is_some, ℕ}
use Rattle.number.proofs.Telling.{is_told}
use Rattle.number.proofs.shape.is_prefix.Goals as goal

pub returns : goal.returns
returns c = c.is_some.ensures ∙ (ap (λ (o : Option ℕ). is_some o) c.prefix.ensures ∙ is_told _ _ _)
