-- What the code of `bits` and of `integers` finds, in the terms of the definitions. Theorems. Assumes nothing.
--     unit_pos, last_zeros     what `ends_in_zeros` finds
--     refused_.., taken       what `read` answers at each of its ends
--     spelt        the number of at most five octets
use mathlib.Core.Path.{◌≡◌, refl, sym, ap, ◌∙◌}
use mathlib.Core.List.{List, [], ◌∷◌, ◌++◌, append_assoc}
use mathlib.Core.Bool.{Bool, true, false}
use Prim.Native.Nat.{ℕ, suc, ◌+◌, ◌-◌, ◌*◌, ◌/◌, ◌%◌, ◌^◌, ◌≤◌, ◌<◌}
use native.Mathlib.Omega.{arith}
use native.Mathlib.Nat.{mod-eq_of_lt}
use lib.Dec.{ltb, eqb}
use lib.ListN.{length, take, drop, get_or, replicate, replicate-append-replicate}
use lib.Pow.{pow_pos, shl_exact, shl_lt}
use lib.Seq.{take_all}
use borrow.Author.Tests.{le-ltb, ltb-false, eqb-true, eqb-false}
use Rattle.number.specs.Tests.{pick}
use Rattle.number.specs.Halves.{bits}
use Rattle.number.specs.Octets.{Octets, value}
use Rattle.number.specs.Address.{sixteen}
use Rattle.number.specs.declared.halves.Width.{Width}
use Rattle.number.proofs.Picks.{rest_of}
use Rattle.number.proofs.Sixteen.{width_octets}
use Rattle.number.proofs.laws.Octets.{value_below, octets-drop}
use Rattle.der.specs.Bits.{bad, cut, read_bits, addressed, bit_string_of}
use Rattle.der.specs.declared.bits.BitString.{BitString}
use Rattle.der.specs.declared.integers.BadInteger.{BadInteger}
use Rattle.std.specs.Prelude.{Result, Ok, Option, Some, None}
use Rattle.der.proofs.Tails.{octets_zeros, value_end}
use Rattle.der.proofs.laws.Bits.{Cut, cut_is, cut_bad}

-- one bit, within an octet
unit_is : (j : ℕ) → j < 8 → 1 * 2 ^ j % 2 ^ 8 ≡ 2 ^ j
unit_is j h = shl_exact {a = 1} 1 j 8 (omega arith) (omega arith) ∙ omega arith

-- it is no zero, so it divides
pub unit_pos : (j : ℕ) → j < 8 → 0 < 1 * 2 ^ j % 2 ^ 8
unit_pos j h = rw (unit_is j h) (pow_pos j)

-- and others do where the last octet does
pub last_zeros : (s : List ℕ) (u : ℕ) → u < 8 → (length s ≡ 0 → ⊥) → eqb (get_or s (length s - 1) 0 % (1 * 2 ^ u % 2 ^ 8)) 0 ≡ eqb (value s % 2 ^ u) 0
last_zeros [] u h g = absurd (g refl)
last_zeros (x ∷ s) u h g =
    let e : suc (length s) - 1 ≡ length s = omega arith in
    rw (e, unit_is u h, value_end x s u (omega arith))

-- zeros after s up to w bits are zeros after it up to sixteen octets
module _ (w m : ℕ) (s : List ℕ) (d : w % 8 ≡ 0) (h : w ≤ 128) (e : w / 8 ≡ length s + m) (b : Octets s) where
  -- so they are those of the address
  filled : take 16 s ++ replicate (16 - length s) 0 ≡ sixteen w (value s * 2 ^ (w - 8 * length s))
  unfolding sixteen
  filled =
      let f : w - 8 * length s ≡ 8 * m = omega arith in
      let g : 8 * length s + 8 * m ≡ w = omega arith in
      let z : 16 - length s ≡ m + (16 - (length s + m)) = omega arith in
      rw (f, mod-eq_of_lt (rw g at (shl_lt (8 * length s) (8 * m) (value_below s b))), e, octets_zeros s m b, take_all 16 s (omega arith), z, ← replicate-append-replicate {A = ℕ} m (16 - (length s + m)) 0)
      (sym (append_assoc s (replicate m 0) (replicate (16 - (length s + m)) 0)))

-- what `read` answers: c the contents, s what follows the initial octet
module _ (width : Width) (c : List ℕ) where
  -- against a rule
  refused : {r : Option BitString} → r ≡ None → (1 ≤ length c → Cut (bits width) (get_or c 0 0) (drop 1 c) → ⊥) → r ≡ bit_string_of width c
  unfolding bit_string_of read_bits
  refused {r} e never = go (ltb (length c) 1) refl
    where
      go : (t : Bool) → ltb (length c) 1 ≡ t → r ≡ addressed width (pick t bad (cut (bits width) (get_or c 0 0) (drop 1 c)))
      go true q = e
      go false q = rw (cut_bad (bits width) (get_or c 0 0) (drop 1 c) (never (ltb-false (length c) 1 q))) e

  -- there is no initial octet
  pub refused_empty : {r : Option BitString} → r ≡ None → length c ≡ 0 → r ≡ bit_string_of width c
  refused_empty e h = refused e (λ l k. omega arith)

  -- it is above 7
  pub refused_initial : {r : Option BitString} → r ≡ None → 7 < get_or c 0 0 → r ≡ bit_string_of width c
  refused_initial e h = refused e (λ l k. omega arith)

  -- the part that the code takes
  part : take (length c - 1) (drop 1 c) ≡ drop 1 c
  part = rest_of 1 c

  -- more than sixteen octets are more than 128 bits
  pub refused_long : {r : Option BitString} → r ≡ None → 16 < length (take (length c - 1) (drop 1 c)) → r ≡ bit_string_of width c
  refused_long e h =
      let g : 16 < length (drop 1 c) = rw part at h in
      refused e (λ l k. omega (arith, width_octets width))

  -- more bits are left over than there are
  pub refused_few : {r : Option BitString} → r ≡ None → 8 * length (take (length c - 1) (drop 1 c)) < get_or c 0 0 → r ≡ bit_string_of width c
  refused_few e h =
      let g : 8 * length (drop 1 c) < get_or c 0 0 = rw part at h in
      refused e (λ l k. omega arith)

  -- there are more bits than the width has
  pub refused_wide : {r : Option BitString} {x : ℕ} → r ≡ None → x ≡ bits width → x < 8 * length (take (length c - 1) (drop 1 c)) - get_or c 0 0 → r ≡ bit_string_of width c
  refused_wide {r} {x} e f h =
      let g : x < 8 * length (drop 1 c) - get_or c 0 0 = rw part at h in
      refused e (λ l k. omega arith)

  -- a bit that is left over is set
  pub refused_set : {r : Option BitString} {t : Bool} → r ≡ None → t ≡ eqb (value (take (length c - 1) (drop 1 c)) % 2 ^ get_or c 0 0) 0 → t ≡ false → r ≡ bit_string_of width c
  refused_set {r} {t} e f h =
      let g : eqb (value (drop 1 c) % 2 ^ get_or c 0 0) 0 ≡ false = rw part at (sym f ∙ h) in
      refused e (λ l k. eqb-false (value (drop 1 c) % 2 ^ get_or c 0 0) 0 g k.zeros)

-- within the rules: the address is what is filled with zeros
pub taken : (c : List ℕ) → ((k : ℕ) → get_or c k 0 < 256) → {o : List ℕ} {x : ℕ} {t : Bool} (width : Width) → (length c ≡ 0 → ⊥) → get_or c 0 0 ≤ 7 → get_or c 0 0 ≤ 8 * length (take (length c - 1) (drop 1 c))
    → x ≡ bits width → 8 * length (take (length c - 1) (drop 1 c)) - get_or c 0 0 ≤ x → t ≡ eqb (value (take (length c - 1) (drop 1 c)) % 2 ^ get_or c 0 0) 0 → t ≡ true
    → o ≡ take 16 (take (length c - 1) (drop 1 c)) ++ replicate (16 - length (take (length c - 1) (drop 1 c))) 0
    → ◌≡◌ {A = Option BitString} (Some (record { count = 8 * length (take (length c - 1) (drop 1 c)) - get_or c 0 0; address = record { width = width; octets = o } })) (bit_string_of width c)
unfolding bit_string_of read_bits Octets
taken c b {o} {x} {t} width n u l f h g i q = go (drop 1 c) refl (rw (rest_of 1 c) at l) (rw (rest_of 1 c) at h) (rw (rest_of 1 c) at (sym g ∙ i)) (rw (rest_of 1 c) at q) (octets-drop 1 c b)
  where
    go : (s : List ℕ) → drop 1 c ≡ s → get_or c 0 0 ≤ 8 * length s → 8 * length s - get_or c 0 0 ≤ x → eqb (value s % 2 ^ get_or c 0 0) 0 ≡ true → o ≡ take 16 s ++ replicate (16 - length s) 0 → Octets s
        → ◌≡◌ {A = Option BitString} (Some (record { count = 8 * length (take (length c - 1) (drop 1 c)) - get_or c 0 0; address = record { width = width; octets = o } })) (bit_string_of width c)
    go s p l h g q b =
        let w = width_octets width in
        let k : Cut (bits width) (get_or c 0 0) s = record { seven = u; some = l; fits = omega arith; zeros = eqb-true (value s % 2 ^ get_or c 0 0) 0 g } in
        let z : 1 ≤ length c = omega arith in
        let m : bits width / 8 ≡ length s + (bits width / 8 - length s) = omega arith in
        rw (rest_of 1 c, p, le-ltb (length c) 1 z, cut_is (bits width) (get_or c 0 0) s k, q, filled (bits width) (bits width / 8 - length s) s w.0 w.1 m b)

-- the number of at most five octets
pub spelt : {x : ℕ} (c : List ℕ) → x ≡ value (take 8 c) → length c ≤ 5 → x ≡ value c
spelt c e h = e ∙ ap value (take_all 8 c (omega arith))

-- and what is answered of it
pub is_as : (x n : ℕ) → x ≡ n → ◌≡◌ {A = Result ℕ BadInteger} (Ok x) (Ok n)
is_as x n e = ap Ok e
