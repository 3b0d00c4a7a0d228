-- Two halves of 64 bits stand to each other as their numbers do: what `==`, `<` and `<=` say of them. Theorems. Assumes nothing.
--     same, below, at_most     what the operators are, as the code of a caller has them in its facts
--     halves_same, halves_below, halves_at_most     a test by an operator is the test of the numbers
use mathlib.Core.Path.{◌≡◌}
use mathlib.Core.Bool.{Bool}
use Prim.Native.Nat.{◌^◌, ◌<◌}
use native.Mathlib.Omega.{arith}
use lib.Dec.{ltb, leb, eqb}
use Rattle.std.specs.Ordering.{partial_lt, partial_le}
use Rattle.number.specs.Halves.{whole}
use Rattle.number.specs.declared.halves.Halves.{Halves}
use Rattle.number.specs.contracts.halves.HalvesPartialEq.TheImpl as equal
use Rattle.number.specs.contracts.halves.HalvesPartialOrd.TheImpl as order
use Rattle.std.proofs.lemmas.Grind.{common_steps}

abbrev pub same : Halves → Halves → Bool
same = equal.eq-value.it

abbrev pub below : Halves → Halves → Bool
below = partial_lt order.partial_cmp-value.it

abbrev pub at_most : Halves → Halves → Bool
at_most = partial_le order.partial_cmp-value.it

module _ {r : Bool} (a b : Halves) (p : a.lower < 2 ^ 64) (q : b.lower < 2 ^ 64) where
  -- a == b
  pub halves_same : r ≡ same a b → r ≡ eqb (whole a) (whole b)
  halves_same e = grind (arith, common_steps)

  -- a < b
  pub halves_below : r ≡ below a b → r ≡ ltb (whole a) (whole b)
  halves_below e = grind (arith, common_steps)

  -- a <= b
  pub halves_at_most : r ≡ at_most a b → r ≡ leb (whole a) (whole b)
  halves_at_most e = grind (arith, common_steps)
