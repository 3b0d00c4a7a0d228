-- Digits: how many there are, and the loops of `spell_decimal` and `spell_hex`. Theorems. Assumes nothing.
--     digit_low, digit_high      a digit as its character
--     Spelled      what is spelled already is at the end of the run.      spell_start      before the loop
--     hex_turn, hex_end        a hexadecimal digit more, and all of them
--     decimal_turn, decimal_last, decimal_end      a decimal digit more, the first one, and as many as the run has
--     length_hex, length-decimal     how many digits there are
--     hex_halves, decimal_part      the digits of two halves, and those at the end of a run of 20
use mathlib.Core.Path.{◌≡◌, refl, sym, ap, ◌∙◌}
use mathlib.Core.List.{List, [], ◌∷◌, ◌++◌, append_assoc}
use mathlib.Core.Bool.{Bool, true, false}
use Prim.Native.Nat.{ℕ, zero, suc, ◌+◌, ◌-◌, ◌*◌, ◌/◌, ◌%◌, ◌^◌, ◌≤◌, ◌<◌}
use native.Mathlib.Nat.{add-zero, add-suc}
use native.Mathlib.Omega.{arith}
use lib.Dec.{eqb}
use lib.ListN.{length, take, drop, set, length-set, length-drop}
use lib.Pow.{pow-add, shr-shr, high}
use lib.Seq.{take_all, drop-cons, drop-set-lt, get_or-set_same, drop-length}
use borrow.Author.Tests.{lt-ltb, le-ltb, eq-eqb, ne_eqb}
use Rattle.number.specs.Tests.{pick}
use Rattle.report.specs.Text.{glyph, decimal_from, decimal, hex_from, hexadecimal}

-- 0 to 9
pub digit_low : {r : ℕ} (d : ℕ) → d < 10 → r ≡ 48 + d → r ≡ glyph d
unfolding glyph
digit_low d h e = rw (lt-ltb d 10 h) e

-- a to f
pub digit_high : {r : ℕ} (d : ℕ) → 10 ≤ d → r ≡ 87 + d → r ≡ glyph d
unfolding glyph
digit_high d h e = rw (le-ltb d 10 h) e

-- an element stored in front of others
store : (l : List ℕ) (k a : ℕ) → k < length l → drop k (set l k a) ≡ a ∷ drop (suc k) l
store l k a h =
    let i : k < length (set l k a) = rw (length-set l k a) h in
    drop-cons (set l k a) k 0 i ∙ rw (get_or-set_same l k a 0 h, drop-set-lt (suc k) l k a (omega arith))

-- the digits from place k of the run on, with those of `left` in front of them, are those of n
pub record Spelled (digits : ℕ → ℕ → List ℕ → List ℕ) (first : List ℕ) (n : ℕ) (run : List ℕ) (k left : ℕ) : Type 0 where
  pub size : length run ≡ length first
  pub inside : k ≤ length first
  pub is : digits k left (drop k run) ≡ digits (length first) n []

-- before the loop
pub spell_start : (digits : ℕ → ℕ → List ℕ → List ℕ) (run : List ℕ) (n : ℕ) → Spelled digits run n run (length run) n
spell_start digits run n = record { size = refl; inside = omega arith; is = ap (digits (length run) n) (drop-length run) }

-- HEXADECIMAL

-- a digit more
hex_more : (k n : ℕ) (s : List ℕ) → 0 < k → hex_from k n s ≡ hex_from (k - 1) (n / 16) (glyph (n % 16) ∷ s)
unfolding hex_from
hex_more k n s h = let e : k ≡ suc (k - 1) = omega arith in ap (λ (i : ℕ). hex_from i n s) e

module _ {first run : List ℕ} {n k left : ℕ} (v : Spelled hex_from first n run k left) where
  -- in the loop
  pub hex_turn : {g : ℕ} → 0 < k → g ≡ glyph (left % 16) → Spelled hex_from first n (set run (k - 1) g) (k - 1) (left / 16)
  hex_turn {g} h e =
      let i : k - 1 < length run = omega (arith, v.size, v.inside) in
      let s : suc (k - 1) ≡ k = omega arith in
      record {
        size = simp length-set v.size;
        inside = omega (arith, v.inside);
        is = rw (store run (k - 1) g i, e, s) (sym (hex_more k left (drop k run) h) ∙ v.is);
      }

  -- all of them
  pub hex_end : k ≤ 0 → run ≡ hex_from (length first) n []
  unfolding hex_from
  hex_end h = let e : k ≡ 0 = omega arith in rw e at v.is

-- k digits
pub length_hex : (k n : ℕ) (s : List ℕ) → length (hex_from k n s) ≡ k + length s
unfolding hex_from
length_hex zero n s = omega arith
length_hex (suc k) n s = omega (arith, length_hex k (n / 16) (glyph (n % 16) ∷ s))

-- digits in front of others
hex_append : (k n : ℕ) (s : List ℕ) → hex_from k n s ≡ hex_from k n [] ++ s
unfolding hex_from
hex_append zero n s = refl
hex_append (suc k) n s =
    let g = glyph (n % 16) in
    hex_append k (n / 16) (g ∷ s) ∙ sym (ap (λ (l : List ℕ). l ++ s) (hex_append k (n / 16) (g ∷ [])) ∙ append_assoc (hex_from k (n / 16) []) (g ∷ []) s)

-- the last b digits, and a digits in front of them
hex_split : (a b n : ℕ) (s : List ℕ) → hex_from (a + b) n s ≡ hex_from a (n / 2 ^ (4 * b)) (hex_from b n s)
unfolding hex_from
hex_split a zero n s = let e : n / 2 ^ (4 * 0) ≡ n = omega arith in rw (add-zero, e)
hex_split a (suc b) n s =
    let e : 4 * suc b ≡ 4 + 4 * b = omega arith in
    rw (add-suc, e, ← shr-shr n 4 (4 * b)) (hex_split a b (n / 16) (glyph (n % 16) ∷ s))

-- b digits do not tell what stands before them
hex_low : (b q l : ℕ) (s : List ℕ) → hex_from b (q * 2 ^ (4 * b) + l) s ≡ hex_from b l s
unfolding hex_from
hex_low zero q l s = refl
hex_low (suc b) q l s =
    let e : 4 * suc b ≡ 4 + 4 * b = omega arith in
    let p : q * 2 ^ (4 * suc b) ≡ 16 * (q * 2 ^ (4 * b)) = rw (e, pow-add 2 4 (4 * b)) (omega arith) in
    let m : (q * 2 ^ (4 * suc b) + l) % 16 ≡ l % 16 = omega arith in
    let d : (q * 2 ^ (4 * suc b) + l) / 16 ≡ q * 2 ^ (4 * b) + l / 16 = omega arith in
    rw (m, d) (hex_low b q (l / 16) (glyph (l % 16) ∷ s))

-- the digits of two halves
pub hex_halves : (u l : ℕ) → l < 2 ^ 64 → hex_from 16 u [] ++ hex_from 16 l [] ≡ hexadecimal (u * 2 ^ 64 + l)
unfolding hexadecimal
hex_halves u l h =
    sym (hex_split 16 16 (u * 2 ^ 64 + l) [] ∙ rw (high u 64 h, hex_low 16 u l []) (hex_append 16 u (hex_from 16 l [])))

-- DECIMAL

-- a digit, and those before it where there are any
decimal_more : (k n : ℕ) (s : List ℕ) → 0 < k → decimal_from k n s ≡ pick (eqb (n / 10) 0) (glyph (n % 10) ∷ s) (decimal_from (k - 1) (n / 10) (glyph (n % 10) ∷ s))
unfolding decimal_from
decimal_more k n s h = let e : k ≡ suc (k - 1) = omega arith in ap (λ (i : ℕ). decimal_from i n s) e

module _ {first run : List ℕ} {n k left : ℕ} (v : Spelled decimal_from first n run k left) where
  -- in the loop
  module _ {g : ℕ} (h : 0 < k) (e : g ≡ glyph (left % 10)) where
    -- the digit stored
    stored : drop (k - 1) (set run (k - 1) g) ≡ glyph (left % 10) ∷ drop k run
    stored =
        let i : k - 1 < length run = omega (arith, v.size, v.inside) in
        let s : suc (k - 1) ≡ k = omega arith in
        rw (store run (k - 1) g i, e, s)

    -- others come before it
    pub decimal_turn : (left / 10 ≡ 0 → ⊥) → Spelled decimal_from first n (set run (k - 1) g) (k - 1) (left / 10)
    decimal_turn d = record {
      size = simp length-set v.size;
      inside = omega (arith, v.inside);
      is = rw stored (sym (rw (ne_eqb (left / 10) 0 d) at (decimal_more k left (drop k run) h)) ∙ v.is);
    }

    -- none does
    pub decimal_last : left / 10 ≡ 0 → drop (k - 1) (set run (k - 1) g) ≡ decimal_from (length first) n []
    decimal_last d = rw stored (sym (rw (eq-eqb (left / 10) 0 d) at (decimal_more k left (drop k run) h)) ∙ v.is)

  -- as many as the run has
  pub decimal_end : k ≤ 0 → drop 0 run ≡ decimal_from (length first) n []
  unfolding decimal_from
  decimal_end h = let e : k ≡ 0 = omega arith in rw e at v.is

-- at most k digits
pub length-decimal : (k n : ℕ) (s : List ℕ) → length (decimal_from k n s) ≤ k + length s
unfolding decimal_from
length-decimal zero n s = omega arith
length-decimal (suc k) n s = go (eqb (n / 10) 0) (length-decimal k (n / 10) (glyph (n % 10) ∷ s))
  where
    go : (b : Bool) → length (decimal_from k (n / 10) (glyph (n % 10) ∷ s)) ≤ k + suc (length s) → length (pick b (glyph (n % 10) ∷ s) (decimal_from k (n / 10) (glyph (n % 10) ∷ s))) ≤ suc k + length s
    go true h = omega arith
    go false h = omega arith

-- the digits in the run of 20
pub decimal_part : (r n : ℕ) (d : List ℕ) → length d ≡ 20 → drop r d ≡ decimal_from 20 n [] → take (20 - r) (drop r d) ≡ decimal n
unfolding decimal
decimal_part r n d l e = take_all (20 - r) (drop r d) (omega (arith, length-drop r d)) ∙ e
