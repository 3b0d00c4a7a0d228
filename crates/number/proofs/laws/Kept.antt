-- How many bits min and max keep: filled in again they are min and max, and no fewer bits do. Theorems. Assumes nothing.
--     lost_fits, lost_ones     what max loses are ones at its end. What goes by `lost_max` goes by these two, never by the rule in it
--     min_back, min_shortest     the shortest string that, filled with zeros, gives min
--     max_back, max_one, max_shortest     the shortest string that has a one bit and, filled with ones, gives max
use mathlib.Core.Path.{◌≡◌, refl, ◌∙◌}
use mathlib.Core.Bool.{Bool, true, false}
use Prim.Native.Nat.{ℕ, zero, suc, ◌+◌, ◌-◌, ◌*◌, ◌/◌, ◌%◌, ◌^◌, ◌≤◌, ◌<◌}
use native.Mathlib.Omega.{arith}
use native.Mathlib.Nat.{le_trans, le-div_iff_mul-le}
use lib.Dec.{eqb}
use lib.Pow.{pow_pos, split}
use borrow.Author.Tests.{eqb-true, eqb-false}
use Rattle.number.specs.Tests.{pick}
use Rattle.number.specs.Kept.{run, kept_min, lost_max, kept_max, zero_filled, one_filled}
use Rattle.number.proofs.laws.Runs.{run_le, run_to, run_from}

-- max loses no more than its trailing ones
lost_le : (w high : ℕ) → lost_max w high ≤ run 1 w high
unfolding lost_max
lost_le w high = go (eqb (high / 2 ^ run 1 w high) 0)
  where
    go : (t : Bool) → pick t (run 1 w high - 1) (run 1 w high) ≤ run 1 w high
    go true = omega arith
    go false = omega arith

-- so no more bits than it has
pub lost_fits : (w high : ℕ) → lost_max w high ≤ w
lost_fits w high = le_trans (lost_le w high) (run_le 1 w high)

-- and what it loses are ones
pub lost_ones : (w high : ℕ) → high < 2 ^ w → high % 2 ^ lost_max w high ≡ 2 ^ lost_max w high - 1
lost_ones w high b = run_from 1 w high (lost_max w high) (lost_le w high) ∙ omega arith

-- n bits kept of w are w - n lost
back : (w j : ℕ) → j ≤ w → w - (w - j) ≡ j
back w j h = omega arith

-- min, filled with zeros again
pub min_back : (w low : ℕ) → low < 2 ^ w → zero_filled w (kept_min w low) low ≡ low
unfolding zero_filled kept_min
min_back w low b = rw (back w (run 0 w low) (run_le 0 w low)) (omega (arith, split low (run 0 w low), run_from 0 w low (run 0 w low) (omega arith)))

-- no shorter string gives it
pub min_shortest : (w n low : ℕ) → low < 2 ^ w → n ≤ w → zero_filled w n low ≡ low → kept_min w low ≤ n
unfolding zero_filled kept_min
min_shortest w n low b h e = omega (arith, run_to 0 w low (w - n) (omega arith) (omega arith) (omega (arith, split low (w - n))))

-- max, filled with ones again
pub max_back : (w high : ℕ) → high < 2 ^ w → one_filled w (kept_max w high) high ≡ high
unfolding one_filled kept_max
max_back w high b = rw (back w (lost_max w high) (lost_fits w high)) (omega (arith, lost_ones w high b, split high (lost_max w high)))

-- a one bit is kept
pub max_one : (w high : ℕ) → 0 < high → high < 2 ^ w → 0 < high / 2 ^ (w - kept_max w high)
unfolding kept_max lost_max
max_one w high p b = rw (back w (lost_max w high) (lost_fits w high)) (go (eqb (high / 2 ^ run 1 w high) 0) refl)
  where
    -- t ones and nothing before them: the first one of them is left of t - 1
    top : (t : ℕ) → high / 2 ^ t ≡ 0 → high % 2 ^ t ≡ 1 * (2 ^ t - 1) → 0 < high / 2 ^ (t - 1)
    top zero e r = absurd (omega (arith, split high 0))
    top (suc t) e r =
        let d : 0 * 2 ^ suc t + high % 2 ^ suc t ≡ high = rw e at (split high (suc t)) in
        let f : suc t - 1 ≡ t = omega arith in
        rw f ((le-div_iff_mul-le (pow_pos t)).1 (omega (arith, pow_pos t)))

    go : (t : Bool) → eqb (high / 2 ^ run 1 w high) 0 ≡ t → 0 < high / 2 ^ pick t (run 1 w high - 1) (run 1 w high)
    go true e = top (run 1 w high) (eqb-true _ _ e) (run_from 1 w high (run 1 w high) (omega arith))
    go false e = omega (arith, eqb-false (high / 2 ^ run 1 w high) 0 e)

-- no shorter string with a one bit gives it
pub max_shortest : (w n high : ℕ) → 0 < high → high < 2 ^ w → n ≤ w → one_filled w n high ≡ high → 0 < high / 2 ^ (w - n) → kept_max w high ≤ n
unfolding one_filled kept_max lost_max
max_shortest w n high p b h e o = go (eqb (high / 2 ^ run 1 w high) 0) refl
  where
    longest : w - n ≤ run 1 w high
    longest = run_to 1 w high (w - n) (omega arith) (omega arith) (omega (arith, split high (w - n)))

    go : (t : Bool) → eqb (high / 2 ^ run 1 w high) 0 ≡ t → w - pick t (run 1 w high - 1) (run 1 w high) ≤ n
    go true q =
        let s : w - n ≡ run 1 w high → ⊥ = (λ s. let z : 0 < high / 2 ^ run 1 w high = rw s at o in omega (arith, eqb-true (high / 2 ^ run 1 w high) 0 q)) in
        omega (arith, longest)
    go false q = omega (arith, longest)
