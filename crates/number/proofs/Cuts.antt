-- Bits cut off and filled in, in the two words of a number. Theorems. Assumes nothing.
--     made     two words are the halves of their number
--     cut_lower, cut_upper     a number without its last bits, by where the cut is
--     filled_is     a number with ones for its last bits
use mathlib.Core.Path.{◌≡◌, refl, sym, ap, ◌∙◌}
use Prim.Native.Nat.{ℕ, ◌+◌, ◌-◌, ◌*◌, ◌/◌, ◌%◌, ◌^◌, ◌≤◌, ◌<◌}
use native.Mathlib.Omega.{arith}
use native.Mathlib.Nat.{mod-lt, mul-add-mod_self_right}
use lib.Arith.{digits_lt}
use lib.Pow.{pow_pos, pow-add, split, high, shl_exact, shr-shr, shr_lt, ones_lt, mod-mod-pow}
use Rattle.number.specs.Halves.{whole, halves, bits}
use Rattle.number.specs.declared.halves.Halves.{Halves}
use Rattle.number.specs.declared.halves.Width.{Width}
use Rattle.number.specs.declared.halves.Width.TheVariants.{Bits32, Bits128}
use Rattle.number.proofs.TwoHalves.{halves_whole, whole_halves}
use Rattle.number.proofs.Runs.{flip_words}

-- the wider width has 128 bits
pub bits_le : (width : Width) → bits width ≤ 128
bits_le Bits32 = omega arith
bits_le Bits128 = omega arith

-- two words and the halves of their number
pub made : (u l n : ℕ) → l < 2 ^ 64 → u * 2 ^ 64 + l ≡ n → record { upper = u; lower = l } ≡ halves n
made u l n h e = rw (← e) (halves_whole (record { upper = u; lower = l }) h)

-- one bit, within a word
pub unit_is : (j : ℕ) → j < 64 → 1 * 2 ^ j % 2 ^ 64 ≡ 2 ^ j
unit_is j h = shl_exact {a = 1} 1 j 64 (omega arith) (omega arith) ∙ omega arith

-- it is no zero, so it divides
pub unit_pos : (j : ℕ) → j < 64 → 0 < 1 * 2 ^ j % 2 ^ 64
unit_pos j h = rw (unit_is j h) (pow_pos j)

-- the cut within the lower word of two, of k bits
low_cut : (k j u l : ℕ) → j ≤ k → u * 2 ^ k + l / 2 ^ j * 2 ^ j ≡ (u * 2 ^ k + l) / 2 ^ j * 2 ^ j
low_cut k j u l h =
    let e : k ≡ (k - j) + j = omega arith in
    let m : (u * 2 ^ k + l) % 2 ^ j ≡ l % 2 ^ j = sym (mod-mod-pow (u * 2 ^ k + l) (k - j) j) ∙ rw (← e, mul-add-mod_self_right u (2 ^ k) l) (rw (← e) at (mod-mod-pow l (k - j) j)) in
    omega (arith, split (u * 2 ^ k + l) j, split l j)

-- and within the upper word
high_cut : (k i u l : ℕ) → l < 2 ^ k → u / 2 ^ i * 2 ^ i * 2 ^ k ≡ (u * 2 ^ k + l) / 2 ^ (k + i) * 2 ^ (k + i)
high_cut k i u l h =
    let e : (u * 2 ^ k + l) / 2 ^ (k + i) ≡ u / 2 ^ i = sym (shr-shr (u * 2 ^ k + l) k i) ∙ rw (high u k h) refl in
    rw (e, pow-add 2 k i) (omega arith)

-- what `cut` gives at each of its ends
module _ (u l j : ℕ) (b : l < 2 ^ 64) where
  -- the cut is in the lower word
  pub cut_lower : {r : ℕ} → j < 64 → r ≡ l / 2 ^ j * 2 ^ j → record { upper = u; lower = r } ≡ halves ((u * 2 ^ 64 + l) / 2 ^ j * 2 ^ j)
  cut_lower {r} h e =
      let s = split l j in
      made u r ((u * 2 ^ 64 + l) / 2 ^ j * 2 ^ j) (omega arith) (rw e (low_cut 64 j u l (omega arith)))

  -- or in the upper one
  pub cut_upper : {r : ℕ} → 64 ≤ j → r ≡ u / 2 ^ (j - 64) * 2 ^ (j - 64) → record { upper = r; lower = 0 } ≡ halves ((u * 2 ^ 64 + l) / 2 ^ j * 2 ^ j)
  cut_upper {r} h e =
      let i : 64 + (j - 64) ≡ j = omega arith in
      let c : r * 2 ^ 64 ≡ (u * 2 ^ 64 + l) / 2 ^ j * 2 ^ j = rw e (rw i at (high_cut 64 (j - 64) u l b)) in
      made r 0 ((u * 2 ^ 64 + l) / 2 ^ j * 2 ^ j) (omega arith) (omega arith)

-- ones in the place of the last j of w bits
pub fill_below : (w j x : ℕ) → j ≤ w → x < 2 ^ w → x / 2 ^ j * 2 ^ j + (2 ^ j - 1) < 2 ^ w
fill_below w j x h b =
    let e : (w - j) + j ≡ w = omega arith in
    let d : x / 2 ^ j * 2 ^ j + (2 ^ j - 1) < 2 ^ (w - j) * 2 ^ j = digits_lt (shr_lt (w - j) j (rw (← e) at b)) (ones_lt j) in
    omega (arith, rw e at (pow-add 2 (w - j) j))

-- the last j of w bits are ones where they are zeros with all bits the other ones
fill_flip : (w j x : ℕ) → j ≤ w → x < 2 ^ w → 2 ^ w - 1 - (2 ^ w - 1 - x) / 2 ^ j * 2 ^ j ≡ x / 2 ^ j * 2 ^ j + (2 ^ j - 1)
fill_flip w j x h b =
    let e : (w - j) + j ≡ w = omega arith in
    let q : x / 2 ^ j < 2 ^ (w - j) = shr_lt (w - j) j (rw (← e) at b) in
    let p = pow_pos j in
    let f : 2 ^ w - 1 - x ≡ (2 ^ (w - j) - 1 - x / 2 ^ j) * 2 ^ j + (2 ^ j - 1 - x % 2 ^ j) =
    rw (e, split x j) at (flip_words (w - j) j (x / 2 ^ j) (x % 2 ^ j) q (mod-lt x p)) in
    let g : (2 ^ w - 1 - x) / 2 ^ j ≡ 2 ^ (w - j) - 1 - x / 2 ^ j = rw f (high (2 ^ (w - j) - 1 - x / 2 ^ j) j (omega arith)) in
    let k : 2 ^ w - 1 - ((2 ^ (w - j) - 1 - x / 2 ^ j) * 2 ^ j + 0) ≡ (2 ^ (w - j) - 1 - (2 ^ (w - j) - 1 - x / 2 ^ j)) * 2 ^ j + (2 ^ j - 1 - 0) =
    rw e at (flip_words (w - j) j (2 ^ (w - j) - 1 - x / 2 ^ j) 0 (omega arith) p) in
    let i : 2 ^ (w - j) - 1 - (2 ^ (w - j) - 1 - x / 2 ^ j) ≡ x / 2 ^ j = omega arith in
    rw g (omega (arith, rw i at k))

-- so `filled` is `cut` between two flips
pub filled_is : {m c r : Halves} (x j : ℕ) → j ≤ 128 → x < 2 ^ 128 → m ≡ halves (2 ^ 128 - 1 - x) → c ≡ halves (whole m / 2 ^ j * 2 ^ j) → r ≡ halves (2 ^ 128 - 1 - whole c)
    → r ≡ halves (x / 2 ^ j * 2 ^ j + (2 ^ j - 1))
filled_is {m} {c} {r} x j h b e f g =
    let u : whole c ≡ (2 ^ 128 - 1 - x) / 2 ^ j * 2 ^ j = ap whole f ∙ whole_halves _ ∙ ap (λ (y : ℕ). y / 2 ^ j * 2 ^ j) (ap whole e ∙ whole_halves _) in
    g ∙ ap (λ (y : ℕ). halves (2 ^ 128 - 1 - y)) u ∙ ap halves (fill_flip 128 j x h b)
