-- The run of equal bits at a number's end, in the code's terms: words and their trailing zeros. Theorems. Assumes nothing.
--     run_zeros     the run of zeros is the trailing-zero count
--     run_flip     the run of ones is the run of zeros of what is left of all ones.      flip_words     and that is left word by word
--     run_words     the run of a number of two words, by the run of each
--     run_min     the run of fewer bits, by the run of more
use mathlib.Core.Path.{◌≡◌, refl, sym, ap, ◌∙◌}
use mathlib.Core.Bool.{Bool, true, false}
use Prim.Native.Nat.{ℕ, zero, suc, ◌+◌, ◌-◌, ◌*◌, ◌/◌, ◌%◌, ◌^◌, ◌<◌, min}
use native.Mathlib.Omega.{arith}
use native.Mathlib.Nat.{add-mul, pow-suc, zero-min, suc-add}
use lib.Dec.{eqb}
use lib.Count.{count_trailing_zeros, under}
use lib.Pow.{ones_split, pow_pos}
use borrow.Author.Tests.{eq-eqb, ne_eqb, eqb-true, eqb-false}
use Rattle.number.specs.Tests.{pick}
use Rattle.number.specs.Kept.{run}
use Rattle.number.proofs.TwoHalves.{agree}
use Rattle.number.proofs.laws.Runs.{filled}

-- the run of zeros is what the machine counts
pub run_zeros : (k n : ℕ) → run 0 k n ≡ count_trailing_zeros k n
unfolding run count_trailing_zeros
run_zeros zero n = refl
run_zeros (suc k) n = rw (run_zeros k (n / 2)) (go (n % 2))
  where
    go : (r : ℕ) → pick (eqb r 0) (suc (count_trailing_zeros k (n / 2))) 0 ≡ under r (count_trailing_zeros k (n / 2))
    go zero = refl
    go (suc r) = rw (ne_eqb (suc r) 0 (omega arith))

-- ones are the zeros of what is left of all ones
pub run_flip : (k n : ℕ) → n < 2 ^ k → run 1 k n ≡ run 0 k (2 ^ k - 1 - n)
unfolding run
run_flip zero n h = refl
run_flip (suc k) n h =
    let p = pow_pos k in
    let f : (2 ^ suc k - 1 - n) % 2 ≡ 1 - n % 2 = omega arith in
    let g : (2 ^ suc k - 1 - n) / 2 ≡ 2 ^ k - 1 - n / 2 = omega arith in
    let t : eqb (1 - n % 2) 0 ≡ eqb (n % 2) 1 = agree _ _ (λ t. eq-eqb (n % 2) 1 (omega (arith, eqb-true (1 - n % 2) 0 t))) (λ t. ne_eqb (n % 2) 1 (λ q. eqb-false (1 - n % 2) 0 t (omega arith))) in
    rw (f, g, t, run_flip k (n / 2) (omega arith))

-- all ones less a number of two words
pub flip_words : (j k u l : ℕ) → u < 2 ^ j → l < 2 ^ k → 2 ^ (j + k) - 1 - (u * 2 ^ k + l) ≡ (2 ^ j - 1 - u) * 2 ^ k + (2 ^ k - 1 - l)
flip_words j k u l a b =
    let m : 2 ^ j - 1 ≡ (2 ^ j - 1 - u) + u = omega arith in
    let s : (2 ^ j - 1) * 2 ^ k ≡ (2 ^ j - 1 - u) * 2 ^ k + u * 2 ^ k = ap (λ (x : ℕ). x * 2 ^ k) m ∙ add-mul (2 ^ j - 1 - u) u (2 ^ k) in
    omega (arith, ones_split j k)

-- the lower word is all b, and the run goes on in the upper one, or it ends there
pub run_words : (b j k u l : ℕ) → b < 2 → l < 2 ^ k → run b (j + k) (u * 2 ^ k + l) ≡ pick (eqb l (b * (2 ^ k - 1))) (k + run b j u) (run b k l)
unfolding run
run_words b j zero u l c h =
    let z : l ≡ 0 = omega arith in
    let e : j + 0 ≡ j = omega arith in
    let f : u * 1 + l ≡ u = omega arith in
    let g : b * (1 - 1) ≡ 0 = omega arith in
    rw (e, f, g, eq-eqb l 0 z) (omega arith)
run_words b j (suc k) u l c h =
    let e : j + suc k ≡ suc (j + k) = omega arith in
    let p : u * 2 ^ suc k ≡ 2 * (u * 2 ^ k) = ap (λ (x : ℕ). u * x) (pow-suc 2 k) ∙ omega arith in
    let f : (u * 2 ^ suc k + l) % 2 ≡ l % 2 = omega arith in
    let g : (u * 2 ^ suc k + l) / 2 ≡ u * 2 ^ k + l / 2 = omega arith in
    rw (e, f, g, run_words b j k u (l / 2) c (omega arith), filled b k) (go (eqb (l % 2) b) refl (eqb (l / 2) (b * (2 ^ k - 1))) refl)
  where
    go : (t : Bool) → eqb (l % 2) b ≡ t → (s : Bool) → eqb (l / 2) (b * (2 ^ k - 1)) ≡ s
        → pick t (suc (pick s (k + run b j u) (run b k (l / 2)))) 0 ≡ pick (eqb l (2 * (b * (2 ^ k - 1)) + b)) (suc k + run b j u) (pick t (suc (run b k (l / 2))) 0)
    go true e true q =
        let x = eqb-true (l % 2) b e in
        let y = eqb-true (l / 2) (b * (2 ^ k - 1)) q in
        rw (eq-eqb l (2 * (b * (2 ^ k - 1)) + b) (omega arith)) (omega arith)
    go true e false q = rw (ne_eqb l (2 * (b * (2 ^ k - 1)) + b) (λ x. eqb-false (l / 2) (b * (2 ^ k - 1)) q (omega arith)))
    go false e s q = rw (ne_eqb l (2 * (b * (2 ^ k - 1)) + b) (λ x. eqb-false (l % 2) b e (omega arith)))

-- the run of fewer bits is the run of more, cut at the width
pub run_min : (b w v n : ℕ) → run b w n ≡ min w (run b (w + v) n)
unfolding run
run_min b zero v n = sym (zero-min _)
run_min b (suc w) v n = rw (suc-add w v) (go (eqb (n % 2) b) (run_min b w v (n / 2)))
  where
    go : (t : Bool) → run b w (n / 2) ≡ min w (run b (w + v) (n / 2)) → pick t (suc (run b w (n / 2))) 0 ≡ min (suc w) (pick t (suc (run b (w + v) (n / 2))) 0)
    go true e = omega arith
    go false e = omega arith
