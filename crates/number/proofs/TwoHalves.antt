-- Numbers in two halves of 64 bits: stepped, and put together again. (Compared: laws/Orders.) Theorems. Assumes nothing.
--     halves_whole, whole_halves       two halves and their number, both ways
--     next_below                       a number that is not the last one has its successor after it
use Prim.Native.Nat.{ℕ, ◌+◌, ◌-◌, ◌*◌, ◌/◌, ◌%◌, ◌<◌, ◌≤◌, ◌^◌}
use mathlib.Core.Path.{◌≡◌, refl, sym, ap, ap₂, ◌∙◌}
use mathlib.Core.Bool.{Bool, true, false}
use native.Mathlib.Nat.{div-add-mod', not-le_of_lt}
use native.Mathlib.Omega.{arith}
use lib.Arith.{digits_lt}
use lib.Pow.{high, low, pow-add}
use borrow.Author.Tests.{eq-eqb, ne_eqb}
use Rattle.number.specs.Halves.{whole, halves, next}
use Rattle.number.specs.declared.halves.Halves.{Halves}

-- two tests that agree both ways
pub agree : (t u : Bool) → (t ≡ true → u ≡ true) → (t ≡ false → u ≡ false) → t ≡ u
agree true u f g = sym (f refl)
agree false u f g = sym (g refl)

-- two halves with equal parts
pub halves_eq : (x y u v : ℕ) → x ≡ u → y ≡ v → ◌≡◌ {A = Halves} (record { upper = x; lower = y }) (record { upper = u; lower = v })
halves_eq x y u v p q = ap₂ (λ (a b : ℕ). record { upper = a; lower = b }) p q

pub halves_whole : (h : Halves) → h.lower < 2 ^ 64 → h ≡ halves (whole h)
halves_whole h q = halves_eq h.upper h.lower _ _ (sym (high h.upper 64 q)) (sym (low h.upper 64 q))

pub whole_halves : (n : ℕ) → whole (halves n) ≡ n
whole_halves n = div-add-mod' n (2 ^ 64)

pub whole_below : (u l : ℕ) → u < 2 ^ 64 → l < 2 ^ 64 → u * 2 ^ 64 + l < 2 ^ 128
whole_below u l p q = rw (pow-add 2 64 64) (digits_lt {m = 2 ^ 64} {c = 2 ^ 64} p q)

-- the last number has both halves full
last_lower : (u l : ℕ) → l < 2 ^ 64 → u * 2 ^ 64 + l ≡ 2 ^ 128 - 1 → l ≡ 2 ^ 64 - 1
last_lower u l q e = sym (low u 64 q) ∙ ap (λ (n : ℕ). n % 2 ^ 64) e

last_upper : (u l : ℕ) → l < 2 ^ 64 → u * 2 ^ 64 + l ≡ 2 ^ 128 - 1 → u ≡ 2 ^ 64 - 1
last_upper u l q e = sym (high u 64 q) ∙ ap (λ (n : ℕ). n / 2 ^ 64) e

pub next_more : (n : ℕ) → (n ≡ 2 ^ 128 - 1 → ⊥) → n + 1 ≡ next n
unfolding next
next_more n f = rw (ne_eqb n (2 ^ 128 - 1) f)

carry : (u l : ℕ) → l < 2 ^ 64 → 18446744073709551615 ≤ l → (u + 1 ≡ (u * 2 ^ 64 + l + 1) / 2 ^ 64) × (0 ≡ (u * 2 ^ 64 + l + 1) % 2 ^ 64)
carry u l p q = (omega arith, omega arith)

-- the three cases of `next` in halves
module _ (a : Halves) where
  pub next_lower : a.lower < 18446744073709551615 → ◌≡◌ {A = Halves} (record { upper = a.upper; lower = a.lower + 1 }) (halves (next (whole a)))
  next_lower h =
      let f : whole a ≡ 2 ^ 128 - 1 → ⊥ = (λ e. let l = last_lower a.upper a.lower (omega arith) e in omega arith) in
      rw (← next_more (whole a) f) (halves_eq a.upper (a.lower + 1) _ _ (omega arith) (omega arith))

  pub next_upper : a.lower < 2 ^ 64 → 18446744073709551615 ≤ a.lower → a.upper < 18446744073709551615
      → ◌≡◌ {A = Halves} (record { upper = a.upper + 1; lower = 0 }) (halves (next (whole a)))
  next_upper b h k =
      let f : whole a ≡ 2 ^ 128 - 1 → ⊥ = (λ e. let u = last_upper a.upper a.lower b e in omega arith) in
      let s = carry a.upper a.lower b h in
      rw (← next_more (whole a) f) (halves_eq (a.upper + 1) 0 _ _ s.0 s.1)

  pub next_last : a.upper < 2 ^ 64 → a.lower < 2 ^ 64 → 18446744073709551615 ≤ a.lower → 18446744073709551615 ≤ a.upper → a ≡ halves (next (whole a))
  unfolding next
  next_last p q h k =
      let l : a.lower ≡ 2 ^ 64 - 1 = omega arith in
      let u : a.upper ≡ 2 ^ 64 - 1 = omega arith in
      let e : whole a ≡ 2 ^ 128 - 1 = ap₂ (λ (x y : ℕ). x * 2 ^ 64 + y) u l in
      rw (eq-eqb (whole a) (2 ^ 128 - 1) e) (halves_whole a q)

-- a number below another of 128 bits is not the last
pub next_below : (n m : ℕ) → n < m → m < 2 ^ 128 → next n ≡ n + 1
next_below n m p q = sym (next_more n (λ (e : n ≡ 2 ^ 128 - 1). not-le_of_lt q (rw e at p)))
