-- The digits of a number say the number. Theorems. Assumes nothing.
--     reads        characters read as digits, from the first to the last
--     hexadecimal_value        32 hexadecimal digits are read as the number of 128 bits that they were made of
--     decimal_value        decimal digits are read as the number below 10 ^ 20 that they were made of.     decimal_zero, decimal_first      no digit 0 is the first, but of 0
use mathlib.Core.Path.{◌≡◌, refl, sym, ap, ◌∙◌}
use mathlib.Core.List.{List, [], ◌∷◌}
use mathlib.Core.Logic.{◌⊎◌, inl, inr}
use mathlib.Core.Bool.{Bool, true, false}
use Prim.Native.Nat.{ℕ, zero, suc, ◌+◌, ◌-◌, ◌*◌, ◌/◌, ◌%◌, ◌^◌, ◌≤◌, ◌<◌}
use native.Mathlib.Nat.{pow-suc}
use native.Mathlib.Omega.{arith}
use lib.Dec.{ltb, eqb}
use lib.ListN.{get_or}
use borrow.Author.Tests.{lt-ltb, le-ltb, eqb-true, eqb-false}
use Rattle.number.specs.Tests.{pick}
use Rattle.number.proofs.Picks.{below}
use Rattle.report.specs.Text.{glyph, decimal_from, decimal, hex_from, hexadecimal}

-- a character as a digit
abbrev pub digit : ℕ → ℕ
digit c = pick (ltb c 58) (c - 48) (c - 87)

-- characters as the digits of a number of a base, after those of another
abbrev pub reads : ℕ → ℕ → List ℕ → ℕ
reads base n [] = n
reads base n (c ∷ s) = reads base (n * base + digit c) s

-- a digit is read back
digit_glyph : (d : ℕ) → d < 16 → digit (glyph d) ≡ d
unfolding glyph
digit_glyph d h = go (below d 10)
  where
    go : (d < 10) ⊎ (10 ≤ d) → digit (pick (ltb d 10) (48 + d) (87 + d)) ≡ d
    go (inl b) = rw (lt-ltb d 10 b, lt-ltb (48 + d) 58 (omega arith)) (omega arith)
    go (inr b) = rw (le-ltb d 10 b, le-ltb (87 + d) 58 (omega arith)) (omega arith)

-- HEXADECIMAL

-- k digits after others
hex_reads : (k n a : ℕ) (s : List ℕ) → n < 16 ^ k → reads 16 a (hex_from k n s) ≡ reads 16 (a * 16 ^ k + n) s
unfolding hex_from
hex_reads zero n a s h = let e : n ≡ 0 = omega arith in let f : a * 1 + 0 ≡ a = omega arith in rw (e, f)
hex_reads (suc k) n a s h =
    let p : 16 ^ suc k ≡ 16 * 16 ^ k = rw (pow-suc 16 k) (omega arith) in
    let e : (a * 16 ^ k + n / 16) * 16 + n % 16 ≡ a * 16 ^ suc k + n = rw p (omega arith) in
    hex_reads k (n / 16) a (glyph (n % 16) ∷ s) (omega arith) ∙ rw (digit_glyph (n % 16) (omega arith), e)

-- k digits alone
hex_value : (k n : ℕ) → n < 16 ^ k → reads 16 0 (hex_from k n []) ≡ n
hex_value k n h = let e : 0 * 16 ^ k + n ≡ n = omega arith in hex_reads k n 0 [] h ∙ e

-- of 128 bits
pub hexadecimal_value : (n : ℕ) → n < 2 ^ 128 → reads 16 0 (hexadecimal n) ≡ n
unfolding hexadecimal
hexadecimal_value n h = hex_value 32 n h

-- DECIMAL

-- before others
decimal_reads : (k n : ℕ) (s : List ℕ) → n < 10 ^ k → reads 10 0 (decimal_from k n s) ≡ reads 10 n s
unfolding decimal_from
decimal_reads zero n s h = let e : n ≡ 0 = omega arith in rw e
decimal_reads (suc k) n s h =
    let p : 10 ^ suc k ≡ 10 * 10 ^ k = rw (pow-suc 10 k) (omega arith) in
    go (eqb (n / 10) 0) refl (decimal_reads k (n / 10) (glyph (n % 10) ∷ s) (omega arith))
  where
    go : (b : Bool) → eqb (n / 10) 0 ≡ b → reads 10 0 (decimal_from k (n / 10) (glyph (n % 10) ∷ s)) ≡ reads 10 (n / 10) (glyph (n % 10) ∷ s)
        → reads 10 0 (pick b (glyph (n % 10) ∷ s) (decimal_from k (n / 10) (glyph (n % 10) ∷ s))) ≡ reads 10 n s
    go true t r = let z = eqb-true (n / 10) 0 t in let e : 0 * 10 + digit (glyph (n % 10)) ≡ n = omega (arith, digit_glyph (n % 10) (omega arith)) in ap (λ (i : ℕ). reads 10 i s) e
    go false t r = let e : n / 10 * 10 + digit (glyph (n % 10)) ≡ n = omega (arith, digit_glyph (n % 10) (omega arith)) in r ∙ ap (λ (i : ℕ). reads 10 i s) e

-- alone
pub decimal_value : (n : ℕ) → n < 10 ^ 20 → reads 10 0 (decimal n) ≡ n
unfolding decimal
decimal_value n h = decimal_reads 20 n [] h

-- 0 is one digit
pub decimal_zero : decimal 0 ≡ glyph 0 ∷ []
unfolding decimal decimal_from
decimal_zero = refl

-- the first digit of any other number before others
first_digit : (k n : ℕ) (s : List ℕ) → 0 < n → n < 10 ^ k → get_or (decimal_from k n s) 0 0 ≡ glyph 0 → ⊥
unfolding decimal_from
first_digit zero n s h b = omega arith
first_digit (suc k) n s h b =
    let p : 10 ^ suc k ≡ 10 * 10 ^ k = rw (pow-suc 10 k) (omega arith) in
    let l : n / 10 < 10 ^ k = omega arith in
    go (eqb (n / 10) 0) refl (λ i. first_digit k (n / 10) (glyph (n % 10) ∷ s) i l)
  where
    go : (b : Bool) → eqb (n / 10) 0 ≡ b → (0 < n / 10 → get_or (decimal_from k (n / 10) (glyph (n % 10) ∷ s)) 0 0 ≡ glyph 0 → ⊥)
        → get_or (pick b (glyph (n % 10) ∷ s) (decimal_from k (n / 10) (glyph (n % 10) ∷ s))) 0 0 ≡ glyph 0 → ⊥
    go true t r e =
        let z = eqb-true (n / 10) 0 t in
        let d : n % 10 ≡ 0 = sym (digit_glyph (n % 10) (omega arith)) ∙ ap digit e ∙ digit_glyph 0 (omega arith) in
        omega arith
    go false t r e = r (omega (arith, eqb-false (n / 10) 0 t)) e

-- is not 0
pub decimal_first : (n : ℕ) (s : List ℕ) → 0 < n → n < 10 ^ 20 → decimal n ≡ glyph 0 ∷ s → ⊥
unfolding decimal
decimal_first n s h b e = first_digit 20 n [] h b (ap (λ (l : List ℕ). get_or l 0 0) e)
