-- `der::readers::outermost` meets its contract: what a new reader finds is what its value begins with. Assumes nothing.
use mathlib.Core.Path.{ap, ◌∙◌}
use mathlib.Core.List.{List}
use Prim.Native.Nat.{ℕ}
use denote.Bor.{Bor}
use Rattle.der.specs.Reader.{element_at}
use Rattle.der.proofs.Places.{element_start}
use Rattle.der.proofs.readers.outermost.Goals as goal

pub returns : goal.returns
returns c =
    c.element.ensures ∙ (ap (λ (x : Bor (List ℕ)). element_at x.now c.new.result.at c.args.tag) c.new.ensures.0 ∙ (ap (λ (k : ℕ). element_at c.args.value.now k c.args.tag) c.new.ensures.1 ∙ element_start c.args.value.now c.args.tag))
