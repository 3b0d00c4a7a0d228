-- What `prefix` and `is_prefix` find, in the terms of `is_prefix` and `shape_of`. Theorems. Assumes nothing.
use mathlib.Core.Path.{◌≡◌, refl, ap, ◌∙◌}
use mathlib.Core.Bool.{Bool, true, false}
use Prim.Native.Nat.{ℕ, ◌+◌, ◌-◌, ◌^◌, ◌≤◌, min}
use native.Mathlib.Omega.{arith}
use lib.Dec.{eqb}
use lib.Pow.{split}
use Rattle.std.specs.Prelude.{Some, None, is_some}
use Rattle.std.specs.Bool.{then_some}
use Rattle.number.specs.Tests.{pick}
use Rattle.number.specs.Kept.{run, one_filled}
use Rattle.number.specs.Shape.{free, is_prefix, shape_of}
use Rattle.number.proofs.laws.Prefix.{free_le, free_zeros}

-- low's first bits, all but the free ones, with ones after them
filled_free : (w x y : ℕ) → one_filled w (w - free w x y) x ≡ x + (2 ^ free w x y - 1)
unfolding one_filled
filled_free w x y =
    let e : w - (w - free w x y) ≡ free w x y = omega (arith, free_le w x y) in
    rw e (omega (arith, free_zeros w x y, split x (free w x y)))

-- the less of two runs
pub free_is : {z o r : ℕ} (w x y : ℕ) → z ≡ run 0 w x → o ≡ run 1 w y → r ≡ min z o → r ≡ free w x y
unfolding free
free_is w x y e g h = omega arith

-- the calls of `prefix`, in their order: the width, the bits that are free, the test
module _ {f a : ℕ} (w x y : ℕ) (b : a ≡ w) (h : f ≡ free w x y) where
  -- they fit the width
  pub free_fits : f ≤ a
  free_fits = omega (arith, free_le w x y)

  -- the test that `prefix` makes
  test_is : {s : Bool} → s ≡ eqb y (one_filled w (a - f) x) → s ≡ is_prefix w x y
  unfolding is_prefix
  test_is t = t ∙ ap (eqb y) (rw (b, h) (filled_free w x y))

  -- and so what `prefix` answers
  pub prefix_is : {s : Bool} → s ≡ eqb y (one_filled w (a - f) x) → then_some s (a - f) ≡ shape_of w x y
  unfolding shape_of
  prefix_is t = rw (test_is t, b, h) (go (is_prefix w x y))
    where
      go : (t : Bool) → then_some t (w - free w x y) ≡ pick t (Some (w - free w x y)) None
      go true = refl
      go false = refl

-- a prefix is told
pub is_told : (w x y : ℕ) → is_some (shape_of w x y) ≡ is_prefix w x y
unfolding shape_of
is_told w x y = go (is_prefix w x y)
  where
    go : (t : Bool) → is_some (pick t (Some (w - free w x y)) None) ≡ t
    go true = refl
    go false = refl
