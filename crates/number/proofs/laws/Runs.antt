-- The run of equal bits at a number's end, as what it divides: j bits at the end of n are all b exactly if j is at most `run b w n`. Theorems. Assumes nothing.
--     run_le     a run is no longer than the width
--     run_to, run_from     j bits at the end that are all b are the number b * (2 ^ j - 1)
use mathlib.Core.Path.{◌≡◌, refl, ap, ◌∙◌}
use mathlib.Core.Bool.{Bool, true, false}
use Prim.Native.Nat.{ℕ, zero, suc, zero-le, suc-le-suc, ◌+◌, ◌-◌, ◌*◌, ◌/◌, ◌%◌, ◌^◌, ◌≤◌, ◌<◌}
use native.Mathlib.Omega.{arith}
use native.Mathlib.Nat.{mod-one, le_of_suc-le-suc, not-suc-le-zero}
use lib.Dec.{eqb}
use lib.Pow.{pow_pos, mod-pow-add}
use borrow.Author.Tests.{eqb-true, eq-eqb}
use Rattle.number.specs.Tests.{pick}
use Rattle.number.specs.Kept.{run}

-- the lowest bit and the others
halved : (n j : ℕ) → n % 2 ^ suc j ≡ (n / 2 % 2 ^ j) * 2 + n % 2
halved n j = let e : suc j ≡ j + 1 = omega arith in rw e (mod-pow-add n j 1)

-- one bit more of all b
pub filled : (b j : ℕ) → b * (2 ^ suc j - 1) ≡ 2 * (b * (2 ^ j - 1)) + b
filled b j =
    let p = pow_pos j in
    let e : 2 ^ suc j - 1 ≡ (2 ^ j - 1) + (2 ^ j - 1) + 1 = omega arith in
    ap (λ (x : ℕ). b * x) e ∙ omega arith

-- a run is no longer than the width
pub run_le : (b w n : ℕ) → run b w n ≤ w
unfolding run
run_le b zero n = zero-le
run_le b (suc w) n = go (eqb (n % 2) b) (run_le b w (n / 2))
  where
    go : (t : Bool) → run b w (n / 2) ≤ w → pick t (suc (run b w (n / 2))) 0 ≤ suc w
    go true h = suc-le-suc h
    go false h = zero-le

-- j bits at the end that are all b are in the run
pub run_to : (b w n j : ℕ) → b < 2 → j ≤ w → n % 2 ^ j ≡ b * (2 ^ j - 1) → j ≤ run b w n
unfolding run
run_to b w n zero c h e = zero-le
run_to b zero n (suc j) c h e = absurd (not-suc-le-zero h)
run_to b (suc w) n (suc j) c h e =
    let s = halved n j in
    let f = filled b j in
    rw (eq-eqb (n % 2) b (omega arith)) (suc-le-suc (run_to b w (n / 2) j c (le_of_suc-le-suc h) (omega arith)))

-- and the bits of the run are all b
pub run_from : (b w n j : ℕ) → j ≤ run b w n → n % 2 ^ j ≡ b * (2 ^ j - 1)
unfolding run
run_from b w n zero h = mod-one n ∙ omega arith
run_from b zero n (suc j) h = absurd (not-suc-le-zero h)
run_from b (suc w) n (suc j) h = go (eqb (n % 2) b) refl h (run_from b w (n / 2) j)
  where
    go : (t : Bool) → eqb (n % 2) b ≡ t → suc j ≤ pick t (suc (run b w (n / 2))) 0 → (j ≤ run b w (n / 2) → n / 2 % 2 ^ j ≡ b * (2 ^ j - 1)) → n % 2 ^ suc j ≡ b * (2 ^ suc j - 1)
    go true e h ih = let i = ih (le_of_suc-le-suc h) in let d = eqb-true (n % 2) b e in omega (arith, halved n j, filled b j)
    go false e h ih = absurd (not-suc-le-zero h)
