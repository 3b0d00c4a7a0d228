-- What the code of `kept` finds at each of its ends, in the terms of the definitions. Theorems. Assumes nothing.
--     zeros_upper, zeros_lower     the zeros at the end of two words of 64 bits, by each word's count
--     ones_flipped     the ones, by the zeros of both words complemented
--     at_width     the run at a width of 32 or 128 bits, by the run in 128
--     run_fits, run_room     a run fits its width.        max_none, max_kept, max_lost     how many bits of max are kept
use mathlib.Core.Path.{◌≡◌, sym, ap, ◌∙◌}
use mathlib.Core.Bool.{Bool, true, false}
use Prim.Native.Nat.{ℕ, ◌+◌, ◌-◌, ◌*◌, ◌/◌, ◌^◌, ◌≤◌, ◌<◌, min}
use native.Mathlib.Omega.{arith}
use native.Mathlib.Nat.{zero-mul, zero-div, mod-lt}
use lib.Dec.{eqb}
use lib.Count.{count_trailing_zeros}
use lib.Pow.{pow_pos, shl-shr}
use borrow.Author.Tests.{eq-eqb, ne_eqb, eqb-true, eqb-false}
use Rattle.number.specs.Tests.{pick}
use Rattle.number.specs.Halves.{whole, halves, bits}
use Rattle.number.specs.Kept.{run, lost_max, kept_max}
use Rattle.number.specs.declared.halves.Halves.{Halves}
use Rattle.number.specs.declared.halves.Width.{Width}
use Rattle.number.specs.declared.halves.Width.TheVariants.{Bits32, Bits128}
use Rattle.number.proofs.Runs.{run_zeros, run_flip, run_words, run_min}
use Rattle.number.proofs.Cuts.{bits_le}
use Rattle.number.proofs.TwoHalves.{whole_halves}
use Rattle.number.proofs.laws.Runs.{run_le}
use Rattle.number.proofs.laws.Orders.{same, halves_same}

-- the lower word is 0, and the zeros go on in the upper one
pub zeros_upper : (u l : ℕ) → l ≡ 0 → 64 + count_trailing_zeros 64 u ≡ run 0 128 (u * 2 ^ 64 + l)
zeros_upper u l e = sym (rw (eq-eqb l 0 e, run_zeros 64 u) at (run_words 0 64 64 u l (omega arith) (omega arith)))

-- or they end in the lower word
pub zeros_lower : (u l : ℕ) → (l ≡ 0 → ⊥) → l < 2 ^ 64 → count_trailing_zeros 64 l ≡ run 0 128 (u * 2 ^ 64 + l)
zeros_lower u l e b = sym (rw (ne_eqb l 0 e, run_zeros 64 l) at (run_words 0 64 64 u l (omega arith) b))

-- the run at a width, by the run in 128 bits
pub at_width : {r a z : ℕ} (b n : ℕ) (width : Width) → r ≡ min a z → a ≡ bits width → z ≡ run b 128 n → r ≡ run b (bits width) n
at_width {r} {a} {z} b n width e f g = go width f
  where
    go : (width : Width) → a ≡ bits width → r ≡ run b (bits width) n
    go Bits32 f = omega (arith, run_min b 32 96 n)
    go Bits128 f = omega (arith, run_min b 128 0 n)

-- the ones are the zeros with all bits the other ones
pub ones_flipped : {r : ℕ} {m : Halves} (n : ℕ) (width : Width) → n < 2 ^ 128 → m ≡ halves (2 ^ 128 - 1 - n) → r ≡ run 0 (bits width) (whole m) → r ≡ run 1 (bits width) n
ones_flipped {r} {m} n width b e f = f ∙ ap (run 0 (bits width)) (ap whole e ∙ whole_halves _) ∙ go width
  where
    go : (width : Width) → run 0 (bits width) (2 ^ 128 - 1 - n) ≡ run 1 (bits width) n
    go Bits32 = omega (arith, run_min 0 32 96 (2 ^ 128 - 1 - n), run_min 1 32 96 n, run_flip 128 n b)
    go Bits128 = sym (run_flip 128 n b)

-- a run fits its width
pub run_fits : {r a : ℕ} (b n : ℕ) (width : Width) → r ≡ run b (bits width) n → a ≡ bits width → r ≤ a
run_fits b n width e f = omega (arith, run_le b (bits width) n)

-- and so 128 bits
pub run_room : {r : ℕ} (b n : ℕ) (width : Width) → r ≡ run b (bits width) n → r ≤ 128
run_room b n width e = omega (arith, run_le b (bits width) n, bits_le width)

-- max: there are no ones to cut off
pub max_none : {r a : ℕ} (w n : ℕ) → r ≡ run 1 w n → a ≡ w → r ≡ 0 → a - r ≡ kept_max w n
unfolding kept_max lost_max
max_none {r} {a} w n e f h = rw (← e) (go (eqb (n / 2 ^ r) 0))
  where
    go : (t : Bool) → a - r ≡ w - pick t (r - 1) r
    go true = omega arith
    go false = omega arith

-- or r ones are cut off, and `left` is what is left: `t` says whether that is nothing
module _ {r a : ℕ} {t : Bool} (w n : ℕ) (left : Halves) (e : r ≡ run 1 w n) (f : a ≡ w) (g : left ≡ halves (n / 2 ^ r * 2 ^ r))
    (h : t ≡ same left (record { upper = 0; lower = 0 })) where
  left_test : t ≡ eqb (n / 2 ^ r * 2 ^ r) 0
  left_test =
      let b : left.lower < 2 ^ 64 = rw g (mod-lt (n / 2 ^ r * 2 ^ r) (pow_pos 64)) in
      halves_same left _ b (omega arith) h ∙ ap (λ (x : ℕ). eqb x 0) (ap whole g ∙ whole_halves _)

  -- the first one is kept
  pub max_kept : (r ≡ 0 → ⊥) → t ≡ true → a - r + 1 ≡ kept_max w n
  unfolding kept_max lost_max
  max_kept p v =
      let z : n / 2 ^ r * 2 ^ r ≡ 0 = eqb-true _ _ (sym left_test ∙ v) in
      let y : n / 2 ^ r ≡ 0 = sym (shl-shr (n / 2 ^ r) r) ∙ ap (λ (x : ℕ). x / 2 ^ r) z ∙ zero-div (2 ^ r) in
      rw (← e, eq-eqb (n / 2 ^ r) 0 y) (omega (arith, run_le 1 w n))

  -- or all ones are lost
  pub max_lost : t ≡ false → a - r ≡ kept_max w n
  unfolding kept_max lost_max
  max_lost v =
      let y : n / 2 ^ r ≡ 0 → ⊥ = (λ z. eqb-false _ _ (sym left_test ∙ v) (rw (z, zero-mul))) in
      rw (← e, ne_eqb (n / 2 ^ r) 0 y) (omega arith)
