-- Prefixes: which numbers from low to high are one, and how it is told. Theorems. Assumes nothing.
--     prefix_told, told_prefix     `shape_of` says `Some n` exactly of a prefix of n bits
--     prefix_once     a prefix has one number of bits.      prefix_single     a single number is a prefix
use mathlib.Core.Path.{◌≡◌, sym, ap, ◌∙◌}
use mathlib.Core.Logic.{◌⊎◌, inl, inr}
use Prim.Native.Nat.{ℕ, suc, ◌+◌, ◌-◌, ◌*◌, ◌/◌, ◌%◌, ◌^◌, ◌≤◌, ◌<◌, min}
use native.Mathlib.Omega.{arith}
use native.Mathlib.Nat.{mod-one}
use lib.Dec.{eqb}
use lib.Pow.{pow_pos, split, low as low_part, ones_lt}
use borrow.Author.Tests.{eq-eqb, eqb-true}
use Rattle.std.specs.Prelude.{Some, None}
use Rattle.number.specs.Kept.{run}
use Rattle.number.specs.Shape.{IsPrefix, free, is_prefix, shape_of}
use Rattle.number.proofs.Picks.{below, pick_is}
use Rattle.number.proofs.laws.Runs.{run_le, run_to, run_from}

-- j zeros at the end of x, filled in
fill_low : (x j r : ℕ) → x % 2 ^ j ≡ 0 → r < 2 ^ j → (x + r) % 2 ^ j ≡ r
fill_low x j r z h =
    let e : x / 2 ^ j * 2 ^ j ≡ x = omega (arith, split x j) in
    ap (λ (y : ℕ). (y + r) % 2 ^ j) (sym e) ∙ low_part (x / 2 ^ j) j h

module _ (w low high : ℕ) where
  -- no more bits are free than there are
  pub free_le : free w low high ≤ w
  unfolding free
  free_le = omega (arith, run_le 0 w low)

  -- and they are zeros of low
  pub free_zeros : low % 2 ^ free w low high ≡ 0
  unfolding free
  free_zeros = run_from 0 w low (min (run 0 w low) (run 1 w high)) (omega arith) ∙ omega arith

  -- the bits that are free in a prefix of n bits are the other ones
  free_is : (n : ℕ) → IsPrefix w n low high → free w low high ≡ w - n
  unfolding free
  free_is n p = go (below (w - n) (min (run 0 w low) (run 1 w high)))
    where
      last : (j : ℕ) → low % 2 ^ j ≡ 0 → 2 ^ (w - n) - 1 < 2 ^ j → high % 2 ^ j ≡ 2 ^ (w - n) - 1
      last j z h = ap (λ (y : ℕ). y % 2 ^ j) p.last ∙ fill_low low j (2 ^ (w - n) - 1) z h

      zeros : w - n ≤ run 0 w low
      zeros = run_to 0 w low (w - n) (omega arith) (omega arith) (p.zeros ∙ omega arith)

      ones : w - n ≤ run 1 w high
      ones = run_to 1 w high (w - n) (omega arith) (omega arith) (last (w - n) p.zeros (ones_lt (w - n)) ∙ omega arith)

      go : (w - n < min (run 0 w low) (run 1 w high)) ⊎ (min (run 0 w low) (run 1 w high) ≤ w - n) → min (run 0 w low) (run 1 w high) ≡ w - n
      go (inl s) =
          let z : low % 2 ^ suc (w - n) ≡ 0 = run_from 0 w low (suc (w - n)) (omega arith) ∙ omega arith in
          let o : high % 2 ^ suc (w - n) ≡ 1 * (2 ^ suc (w - n) - 1) = run_from 1 w high (suc (w - n)) (omega arith) in
          let q = pow_pos (w - n) in
          absurd (omega (arith, last (suc (w - n)) z (omega arith)))
      go (inr s) = omega (arith, zeros, ones)

-- a prefix is told to be one
pub prefix_told : (w n low high : ℕ) → IsPrefix w n low high → shape_of w low high ≡ Some n
unfolding shape_of is_prefix
prefix_told w n low high p =
    let e : w - (w - n) ≡ n = omega (arith, p.fits) in
    rw (free_is w low high n p, eq-eqb high (low + (2 ^ (w - n) - 1)) p.last, e)

-- so it has one number of bits
pub prefix_once : (w n m low high : ℕ) → IsPrefix w n low high → IsPrefix w m low high → n ≡ m
prefix_once w n m low high p q = let e = prefix_told w n low high p in let f = prefix_told w m low high q in cc

-- a range is no prefix
no_prefix : (n : ℕ) → None ≡ Some n → ⊥
no_prefix n e = let z : ◌≡◌ {A = ℕ} 0 1 = cc in omega arith

-- what is told to be a prefix is one
pub told_prefix : (w n low high : ℕ) → low < 2 ^ w → shape_of w low high ≡ Some n → IsPrefix w n low high
unfolding shape_of is_prefix
told_prefix w n low high b e =
    let t = pick_is (eqb high (low + (2 ^ free w low high - 1))) (Some n) (Some (w - free w low high)) None (no_prefix n) e in
    let s = t.1 in
    let k : w - free w low high ≡ n = cc in
    let f : w - n ≡ free w low high = omega (arith, free_le w low high) in
    record {
      fits = omega arith;
      below = b;
      zeros = rw f (free_zeros w low high);
      last = rw f (eqb-true high (low + (2 ^ free w low high - 1)) t.0);
    }

-- a single number, with all its bits
pub prefix_single : (w x : ℕ) → x < 2 ^ w → IsPrefix w w x x
prefix_single w x b =
    let e : w - w ≡ 0 = omega arith in
    record { fits = omega arith; below = b; zeros = rw e (mod-one x); last = rw e (omega arith) }
