-- Bits at the start of a word, as the start of w bits: low, high and the one form of a range. Theorems. Assumes nothing.
--     placed_..        bits of a word as an address's.     last_..     with ones after them.        filled_..       `filled`
--     run_is, kept_..      how many bits min and max keep.     unlike_..       a range is no prefix.        range_sure, range_span      `is_range`, and what is read of it
use mathlib.Core.Path.{◌≡◌, refl, sym, ap, ◌∙◌}
use mathlib.Core.Bool.{true, false, not}
use mathlib.Core.Logic.{◌⊎◌, inl, inr}
use Prim.Native.Nat.{ℕ, suc, ◌+◌, ◌-◌, ◌*◌, ◌/◌, ◌%◌, ◌^◌, ◌≤◌, ◌<◌}
use native.Mathlib.Omega.{arith}
use native.Mathlib.Nat.{mul_assoc, mul-mod_left, mod_self, add-mul, mul-le-mul_right}
use lib.Bits.{bit_and, and_mask}
use lib.Dec.{eqb}
use lib.Pow.{pow_pos, pow-lt, pow-add, split, high, low, shl-shr, mod-pow-add, ones_lt}
use borrow.Author.Tests.{lt-ltb, eq-eqb, ne_eqb, eqb-false, not-true}
use Rattle.number.specs.Kept.{run, kept_min, lost_max, kept_max, one_filled}
use Rattle.number.specs.Shape.{free, is_prefix}
use Rattle.number.proofs.Cuts.{unit_is, fill_below}
use Rattle.number.proofs.Picks.{below}
use Rattle.number.proofs.laws.Runs.{run_to, run_from}
use Rattle.values.specs.Forms.{span, ranged}
use Rattle.values.specs.Briefs.{Within, placed_bits, Leading, filled_bits, IsRange}

-- n bits at the start of a word, and at the start of w bits
module _ (w n a : ℕ) (h : n ≤ 64) (l : n ≤ w) where
  moved_to : a * 2 ^ (64 - n) * 2 ^ w ≡ a * 2 ^ (w - n) * 2 ^ 64
  moved_to =
      let e : (64 - n) + w ≡ (w - n) + 64 = omega arith in
      let q : 2 ^ (64 - n) * 2 ^ w ≡ 2 ^ (w - n) * 2 ^ 64 = sym (pow-add 2 (64 - n) w) ∙ ap (λ (y : ℕ). 2 ^ y) e ∙ pow-add 2 (w - n) 64 in
      mul_assoc a (2 ^ (64 - n)) (2 ^ w) ∙ ap (λ (y : ℕ). a * y) q ∙ sym (mul_assoc a (2 ^ (w - n)) (2 ^ 64))

  -- so they are all within w bits
  pub placed_within : Within w (a * 2 ^ (64 - n))
  placed_within = ap (λ (y : ℕ). y % 2 ^ 64) moved_to ∙ mul-mod_left (a * 2 ^ (w - n)) (2 ^ 64)

  -- and begin this address
  pub placed_at : placed_bits w (a * 2 ^ (64 - n)) ≡ a * 2 ^ (w - n)
  placed_at = ap (λ (y : ℕ). y / 2 ^ 64) moved_to ∙ shl-shr (a * 2 ^ (w - n)) 64

-- a word that ends in zeros, by its first n bits
module _ (n x : ℕ) (z : x % 2 ^ (64 - n) ≡ 0) where
  leads : x ≡ x / 2 ^ (64 - n) * 2 ^ (64 - n)
  leads = omega (arith, split x (64 - n))

  -- and the word after those that begin with them
  leads_next : filled_bits n x + 1 ≡ (x / 2 ^ (64 - n) + 1) * 2 ^ (64 - n)
  leads_next = omega (arith, leads, pow_pos (64 - n), add-mul (x / 2 ^ (64 - n)) 1 (2 ^ (64 - n)))

-- such a word, with ones in the place of the zeros
module _ (w n x : ℕ) (h : n ≤ 64) (l : n ≤ w) (z : x % 2 ^ (64 - n) ≡ 0) where
  -- the address
  placed_leads : placed_bits w x ≡ x / 2 ^ (64 - n) * 2 ^ (w - n)
  placed_leads = ap (placed_bits w) (leads n x z) ∙ placed_at w n (x / 2 ^ (64 - n)) h l

  -- the word after it is within w bits
  pub last_within : Within w (filled_bits n x + 1)
  last_within = rw (leads_next n x z) (placed_within w n (x / 2 ^ (64 - n) + 1) h l)

  -- the last address
  last_at : placed_bits w (filled_bits n x + 1) - 1 ≡ x / 2 ^ (64 - n) * 2 ^ (w - n) + (2 ^ (w - n) - 1)
  last_at = ap (λ (y : ℕ). y - 1) (ap (placed_bits w) (leads_next n x z) ∙ placed_at w n (x / 2 ^ (64 - n) + 1) h l) ∙ omega (arith, pow_pos (w - n), add-mul (x / 2 ^ (64 - n)) 1 (2 ^ (w - n)))

  -- is the one with ones after the bits
  pub last_filled : placed_bits w (filled_bits n x + 1) - 1 ≡ one_filled w n (placed_bits w x)
  unfolding one_filled
  last_filled = rw (last_at, placed_leads, shl-shr (x / 2 ^ (64 - n)) (w - n))

-- what `filled` gives
module _ (n x : ℕ) (p : Leading n x) where
  unit : 1 * 2 ^ (64 - n) % 2 ^ 64 ≡ 2 ^ (64 - n)
  unit = unit_is (64 - n) (omega arith)

  -- it is a word
  pub filled_fits : x + (1 * 2 ^ (64 - n) % 2 ^ 64 - 1) < 2 ^ 64
  filled_fits = omega (arith, unit, split x (64 - n), fill_below 64 (64 - n) x (omega arith) p.2)

-- j bits at the end that are all b, and another before them
run_is : (b w n j : ℕ) → b < 2 → j ≤ w → n % 2 ^ j ≡ b * (2 ^ j - 1) → (n / 2 ^ j % 2 ≡ b → ⊥) → run b w n ≡ j
run_is b w n j c h e f = go (below j (run b w n))
  where
    go : (j < run b w n) ⊎ (run b w n ≤ j) → run b w n ≡ j
    go (inl s) =
        let i : 1 + j ≡ suc j = omega arith in
        let m : n % 2 ^ suc j ≡ n / 2 ^ j % 2 * 2 ^ j + n % 2 ^ j = rw i at (mod-pow-add n 1 j) in
        let r : n % 2 ^ suc j ≡ b * (2 ^ suc j - 1) = run_from b w n (suc j) s in
        let o : 2 ^ suc j - 1 ≡ 2 ^ j + (2 ^ j - 1) = omega (arith, pow_pos j) in
        let p : b * (2 ^ suc j - 1) ≡ b * 2 ^ j + b * (2 ^ j - 1) = ap (λ (y : ℕ). b * y) o ∙ omega arith in
        let q : n / 2 ^ j % 2 * 2 ^ j ≡ b * 2 ^ j = omega arith in
        absurd (f (sym (shl-shr (n / 2 ^ j % 2) j) ∙ ap (λ (y : ℕ). y / 2 ^ j) q ∙ shl-shr b j))
    go (inr s) = omega (arith, run_to b w n j c h e)

-- min ends in a one: the zeros after it are not kept
kept_min_lem : (w a j : ℕ) → j ≤ w → a % 2 ≡ 1 → kept_min w (a * 2 ^ j) ≡ w - j
unfolding kept_min
kept_min_lem w a j h o = ap (λ (y : ℕ). w - y) (run_is 0 w (a * 2 ^ j) j (omega arith) h (mul-mod_left a (2 ^ j) ∙ omega arith) (rw (shl-shr a j) (omega arith)))

-- max ends in a zero, and has a one before it: the ones after it are not kept
kept_max_lem : (w a j : ℕ) → j ≤ w → a % 2 ≡ 0 → 0 < a → kept_max w (a * 2 ^ j + (2 ^ j - 1)) ≡ w - j
unfolding kept_max lost_max
kept_max_lem w a j h o s =
    let f : (a * 2 ^ j + (2 ^ j - 1)) / 2 ^ j ≡ a = high a j (ones_lt j) in
    let e : run 1 w (a * 2 ^ j + (2 ^ j - 1)) ≡ j = run_is 1 w (a * 2 ^ j + (2 ^ j - 1)) j (omega arith) h (low a j (ones_lt j) ∙ omega arith) (rw f (omega arith)) in
    let z : a ≡ 0 → ⊥ = omega arith in
    rw (e, f, ne_eqb a 0 z) refl

-- what divides a power of two is one
power : (w d f : ℕ) → 0 < d → d * 2 ^ w ≡ 2 ^ (f + 64) → (k : ℕ) × (d ≡ 2 ^ k)
power w d f s e = go (below (f + 64) w)
  where
    go : (f + 64 < w) ⊎ (w ≤ f + 64) → (k : ℕ) × (d ≡ 2 ^ k)
    go (inl l) =
        let z : ⊥ = omega (arith, pow-lt l, mul-le-mul_right {m = 1} {n = d} (2 ^ w) s) in
        absurd z
    go (inr l) =
        let i : f + 64 ≡ (f + 64 - w) + w = omega arith in
        let q : d * 2 ^ w ≡ 2 ^ (f + 64 - w) * 2 ^ w = e ∙ ap (λ (y : ℕ). 2 ^ y) i ∙ pow-add 2 (f + 64 - w) w in
        (f + 64 - w, sym (shl-shr d w) ∙ ap (λ (y : ℕ). y / 2 ^ w) q ∙ shl-shr (2 ^ (f + 64 - w)) w)

-- the addresses of w bits from low to high are d words of 64 bits, and d is no power of two
module _ (w low high d : ℕ) (s : 0 < d) (e : (high + 1) * 2 ^ 64 ≡ low * 2 ^ 64 + d * 2 ^ w) (u : (k : ℕ) → d ≡ 2 ^ k → ⊥) where
  -- they are no prefix
  unlike_prefix : is_prefix w low high ≡ false
  unfolding is_prefix
  unlike_prefix =
      ne_eqb high (low + (2 ^ free w low high - 1)) (λ (p : high ≡ low + (2 ^ free w low high - 1)).
      let q : d * 2 ^ w ≡ 2 ^ (free w low high + 64) = omega (arith, pow_pos (free w low high), pow-add 2 (free w low high) 64) in
      let (k, f) = power w d (free w low high) s q in
      u k f)

  -- and not one alone
  unlike_one : low < high
  unlike_one =
      let p : 1 * 2 ^ w ≤ d * 2 ^ w = mul-le-mul_right {m = 1} {n = d} (2 ^ w) s in
      let n : low ≡ high → ⊥ = (λ (q : low ≡ high).
      let (k, f) = power w d 0 s (omega arith) in
      u k f) in
      omega (arith, pow_pos w)

-- min and max that `is_range` lets through
module _ (w n min m max : ℕ) (p : Leading n min) (q : Leading m max) (f : n ≤ w) (g : m ≤ w) (r : IsRange n min m max) where
  -- how many addresses they are from low to high
  range_count : (placed_bits w (filled_bits m max + 1) - 1 + 1) * 2 ^ 64 ≡ placed_bits w min * 2 ^ 64 + (filled_bits m max - min + 1) * 2 ^ w
  range_count =
      let a : ℕ = min / 2 ^ (64 - n) in
      let b : ℕ = max / 2 ^ (64 - m) in
      let i : min * 2 ^ w ≡ placed_bits w min * 2 ^ 64 = rw (placed_leads w n min p.1 f p.3) (ap (λ (y : ℕ). y * 2 ^ w) (leads n min p.3) ∙ moved_to w n a p.1 f) in
      let h : placed_bits w (filled_bits m max + 1) - 1 + 1 ≡ (b + 1) * 2 ^ (w - m) = ap (λ (y : ℕ). y + 1) (last_at w m max q.1 g q.3) ∙ omega (arith, pow_pos (w - m), add-mul b 1 (2 ^ (w - m))) in
      let j : (filled_bits m max + 1) * 2 ^ w ≡ (b + 1) * 2 ^ (w - m) * 2 ^ 64 = ap (λ (y : ℕ). y * 2 ^ w) (leads_next m max q.3) ∙ moved_to w m (b + 1) q.1 g in
      let o : filled_bits m max + 1 ≡ min + (filled_bits m max - min + 1) = omega (arith, r.order) in
      let k : (filled_bits m max + 1) * 2 ^ w ≡ min * 2 ^ w + (filled_bits m max - min + 1) * 2 ^ w = ap (λ (y : ℕ). y * 2 ^ w) o ∙ add-mul min (filled_bits m max - min + 1) (2 ^ w) in
      rw h (sym j ∙ k ∙ ap (λ (y : ℕ). y + (filled_bits m max - min + 1) * 2 ^ w) i)

  -- they are the one form of a range
  pub range_span : ranged w n (placed_bits w min) m (one_filled w m (placed_bits w max)) ≡ span (placed_bits w min) (placed_bits w (filled_bits m max + 1) - 1)
  unfolding ranged
  range_span =
      let a : ℕ = min / 2 ^ (64 - n) in
      let b : ℕ = max / 2 ^ (64 - m) in
      let low : ℕ = placed_bits w min in
      let high : ℕ = placed_bits w (filled_bits m max + 1) - 1 in
      let none : b ≡ 0 → ⊥ = (λ (e : b ≡ 0). omega (arith, rw e at (leads m max q.3), r.some)) in
      let some : 0 < b = omega arith in
      let i : kept_min w low ≡ w - (w - n) = rw (placed_leads w n min p.1 f p.3) (kept_min_lem w a (w - n) (omega arith) r.one) in
      let j : kept_max w high ≡ w - (w - m) = rw (last_at w m max q.1 g q.3) (kept_max_lem w b (w - m) (omega arith) r.zero some) in
      let pos : 0 < filled_bits m max - min + 1 = omega arith in
      rw (
        ← last_filled w m max q.1 g q.3,
        lt-ltb low high (unlike_one w low high _ pos range_count r.unlike),
        eq-eqb n (kept_min w low) (omega arith),
        eq-eqb m (kept_max w high) (omega arith),
        unlike_prefix w low high _ pos range_count r.unlike,
      ) refl

-- how `is_range` sees that d + 1 is no power of two
unlike_power : (d k : ℕ) → (bit_and (d + 1) d ≡ 0 → ⊥) → d + 1 ≡ 2 ^ k → ⊥
unlike_power d k n e =
    let f : d ≡ 2 ^ k - 1 = omega arith in
    n (rw (e, f) (and_mask (2 ^ k) k ∙ mod_self (2 ^ k)))

-- what `is_range` is sure of
pub range_sure : {last : ℕ} (n min m max : ℕ) → (min / 2 ^ (64 - n) % 2 ≡ 0 → ⊥) → (max / 2 ^ (64 - m) % 2 ≡ 1 → ⊥) → (max ≡ 0 → ⊥) → last ≡ filled_bits m max → min < last
    → not (eqb (bit_and (last - min + 1) (last - min)) 0) ≡ true → IsRange n min m max
range_sure {last} n min m max a b c f l t =
    let u : eqb (bit_and (filled_bits m max - min + 1) (filled_bits m max - min)) 0 ≡ false = not-true _ (rw f at t) in
    record { one = omega arith; zero = omega arith; some = omega arith; order = rw f at l; unlike = λ k. unlike_power (filled_bits m max - min) k (eqb-false _ _ u) }
