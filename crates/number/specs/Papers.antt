-- The answers of this crate in this paper's numbers: the number of the refusal, 0 as there is none, and the values of the case. A width is its `bits` (Halves). (proofs/laws/Papers: they tell the cases apart.)
use Rattle.std.specs.Prelude.{ℕ, Option, Some, None, List, [], ◌∷◌}
use Rattle.std.specs.declared.cmp.Ordering.{Ordering}
use Rattle.std.specs.declared.cmp.Ordering.TheVariants as order

-- "a prefix", which has its bits, or a range
abbrev pub shape_paper : Option ℕ → List ℕ
shape_paper (Some n) = 0 ∷ n ∷ []
shape_paper None = 0 ∷ []

-- how two numbers stand to each other
abbrev pub order_paper : Ordering → List ℕ
order_paper order.Less = 0 ∷ 0 ∷ []
order_paper order.Equal = 0 ∷ 1 ∷ []
order_paper order.Greater = 0 ∷ 2 ∷ []

-- the same, of numbers of which it is asked whether they do
abbrev pub partial_order_paper : Option Ordering → List ℕ
partial_order_paper (Some o) = order_paper o
partial_order_paper None = 0 ∷ []
