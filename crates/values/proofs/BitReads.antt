-- A brief BIT STRING as one number: eight octets, of which the first k are its own. Theorems. Assumes nothing.
--     placed_is        `placed`.       none_taken, string_..       `brief_bits`
use mathlib.Core.Path.{◌≡◌, refl, sym, ap, ◌∙◌}
use mathlib.Core.List.{List, ◌∷◌}
use mathlib.Core.Bool.{Bool, true}
use Prim.Native.Nat.{ℕ, suc, ◌+◌, ◌-◌, ◌*◌, ◌/◌, ◌%◌, ◌^◌, ◌≤◌, ◌<◌}
use native.Mathlib.Omega.{arith}
use native.Mathlib.Nat.{add-zero, mul_assoc, mul_comm, zero-div, mod-eq_of_lt, mul-mod_left}
use lib.ListN.{length, get_or, take, drop, length-drop}
use lib.Pow.{pow_pos, pow-add, high, field, shl-shr, shr-shr, shl_lt}
use lib.Seq.{length-take-le, drop-cons}
use borrow.Author.Tests.{le-ltb}
use Rattle.number.specs.Halves.{halves, bits}
use Rattle.number.specs.Octets.{Octets, value}
use Rattle.number.specs.Address.{sixteen, address_of}
use Rattle.number.specs.Kept.{zero_filled}
use Rattle.number.specs.declared.address.Address.{Address}
use Rattle.number.specs.declared.halves.Halves.{Halves}
use Rattle.number.specs.declared.halves.Width.{Width}
use Rattle.number.specs.declared.halves.Width.TheVariants.{Bits32, Bits128}
use Rattle.number.proofs.Cuts.{unit_is, unit_pos}
use Rattle.number.proofs.Sixteen.{width_octets}
use Rattle.number.proofs.laws.Octets.{octets_part}
use Rattle.der.specs.Tags.{BIT_STRING}
use Rattle.der.specs.Head.{element}
use Rattle.der.specs.Bits.{begun, read_bits, bits_of}
use Rattle.der.proofs.Tails.{sixteen_parts}
use Rattle.der.proofs.laws.Bits.{Begins, Cut, cut_is, bits_of_lem}
use Rattle.values.specs.Briefs.{is_brief, Starts, Within, placed_bits, BriefBits}
use Rattle.std.specs.Prelude.{Some}
use Rattle.values.proofs.BriefReads.{brief_long, brief_tag, brief_least, brief_most, headed, of_eight}
use Rattle.values.proofs.BriefSpans.{placed_within, placed_at}

-- the first 64 of 128 bits are the first of an address that has no other
placed_octets : (width : Width) (x : ℕ) → x < 2 ^ 64 → Within (bits width) x → sixteen 128 (x * 2 ^ 64) ≡ sixteen (bits width) (placed_bits (bits width) x)
unfolding sixteen
placed_octets Bits32 x b z =
    let y : ℕ = x * 2 ^ 32 / 2 ^ 64 in
    let n : y < 2 ^ 32 = omega arith in
    let e : x ≡ y * 2 ^ 32 = omega arith in
    let m : x * 2 ^ 64 ≡ y * 2 ^ 96 = ap (λ (x : ℕ). x * 2 ^ 64) e ∙ mul_assoc y (2 ^ 32) (2 ^ 64) in
    rw (m, sixteen_parts 128 4 12 (y * 2 ^ 96) refl (shl_lt 32 96 n), shl-shr y 96, mul-mod_left y (2 ^ 96), mod-eq_of_lt n)
placed_octets Bits128 x b z = ap (sixteen 128) (sym (ap (λ (y : ℕ). y / 2 ^ 64) (sym (mul_assoc x (2 ^ 64) (2 ^ 64))) ∙ shl-shr (x * 2 ^ 64) 64))

-- so `placed` gives the address
pub placed_is : {a : Address} (width : Width) (x : ℕ) → x < 2 ^ 64 → Within (bits width) x → a ≡ address_of Bits128 (x * 2 ^ 64 + 0)
    → ◌≡◌ {A = Address} (record { width = width; octets = a.octets }) (address_of width (placed_bits (bits width) x))
placed_is {a} width x b z e = ap (λ (s : List ℕ). record { width = width; octets = s }) (ap (λ (a : Address). a.octets) e ∙ ap (sixteen 128) (add-zero (x * 2 ^ 64)) ∙ placed_octets width x b z)

-- zeros in the place of u bits, before j others
zeros_of : (v u j : ℕ) → v * 2 ^ j % 2 ^ (u + j) ≡ 0 → v % 2 ^ u ≡ 0
zeros_of v u j h = ap (λ (y : ℕ). y % 2 ^ u) (sym (shl-shr v j)) ∙ sym (field (v * 2 ^ j) u j) ∙ ap (λ (y : ℕ). y / 2 ^ j) h ∙ zero-div (2 ^ j)

-- the first n bits of a word, which is the upper one of two
word_cut : (x n : ℕ) → n ≤ 64 → zero_filled 128 n (x * 2 ^ 64 + 0) / 2 ^ 64 ≡ x / 2 ^ (64 - n) * 2 ^ (64 - n)
unfolding zero_filled
word_cut x n h =
    let e : 128 - n ≡ 64 + (64 - n) = omega arith in
    let f : (x * 2 ^ 64 + 0) / 2 ^ (64 + (64 - n)) ≡ x / 2 ^ (64 - n) = sym (shr-shr (x * 2 ^ 64 + 0) 64 (64 - n)) ∙ ap (λ (y : ℕ). y / 2 ^ (64 - n)) (high x 64 (pow_pos 64)) in
    let g : 2 ^ (64 + (64 - n)) ≡ 2 ^ (64 - n) * 2 ^ 64 = pow-add 2 64 (64 - n) ∙ mul_comm (2 ^ 64) (2 ^ (64 - n)) in
    rw (e, f, g, ← mul_assoc (x / 2 ^ (64 - n)) (2 ^ (64 - n)) (2 ^ 64)) (shl-shr (x / 2 ^ (64 - n) * 2 ^ (64 - n)) 64)

-- k octets of contents, after the one that says how many bits are left over
module _ (w k : ℕ) (s : List ℕ) (o : Octets s) (m : w % 8 ≡ 0) (some : 1 ≤ k) (most : k ≤ 8) (long : 11 ≤ length s) (seven : get_or s 2 0 ≤ 7) (fits : 8 * k - get_or s 2 0 ≤ w) where
  -- with zeros at their end they are those of a BIT STRING
  string_octets : value (take k (drop 3 s)) % 2 ^ get_or s 2 0 ≡ 0
      → (take (suc k) (drop 2 s) ≡ bits_of w (8 * k - get_or s 2 0) (value (take k (drop 3 s)) * 2 ^ (w - 8 * k))) × Begins w (8 * k - get_or s 2 0) (value (take k (drop 3 s)) * 2 ^ (w - 8 * k))
  unfolding read_bits
  string_octets z =
      let n : length (take k (drop 3 s)) ≡ k = length-take-le k (drop 3 s) (omega (arith, length-drop 3 s)) in
      let c : take (suc k) (drop 2 s) ≡ get_or s 2 0 ∷ take k (drop 3 s) = ap (λ (l : List ℕ). take (suc k) l) (drop-cons s 2 0 (omega arith)) in
      let h : Cut w (get_or s 2 0) (take k (drop 3 s)) = record { seven = seven; some = omega arith; fits = omega arith; zeros = z } in
      let r : read_bits w (take (suc k) (drop 2 s)) ≡ begun (8 * k - get_or s 2 0) (value (take k (drop 3 s)) * 2 ^ (w - 8 * k)) = rw (c, le-ltb (suc (length (take k (drop 3 s)))) 1 (omega arith)) (rw n at (cut_is w (get_or s 2 0) (take k (drop 3 s)) h)) in
      bits_of_lem w _ _ (take (suc k) (drop 2 s)) m (octets_part 2 (suc k) s o) r

-- what the arithmetic of `brief_bits` needs, and its last end: v octets of contents
module _ {t : Bool} (s : List ℕ) (p : t ≡ is_brief BIT_STRING 2 9 s) (y : t ≡ true) where
  module _ {v : ℕ} (e : v ≡ get_or s 1 0) where
    -- the octets that are its bits, and the bits of a word that are not its own
    pub string_some : 1 ≤ v
    string_some = omega (arith, brief_least BIT_STRING 2 9 s p y)

    pub string_most : 8 * (v - 1) ≤ 64
    string_most = omega (arith, brief_most BIT_STRING 2 9 s p y)

    module _ {u : ℕ} (f : u ≡ get_or s 2 0) (l : get_or s 2 0 ≤ 7) where
      -- u bits are left over
      pub string_over : u ≤ 8 * (v - 1)
      string_over = omega (arith, brief_least BIT_STRING 2 9 s p y)

      pub string_count : 8 * (v - 1) - u ≤ 64
      string_count = omega (arith, string_most)

      pub string_unit : 64 - (8 * (v - 1) - u) < 64
      string_unit = omega (arith, brief_least BIT_STRING 2 9 s p y)

      pub string_divides : 0 < 1 * 2 ^ (64 - (8 * (v - 1) - u)) % 2 ^ 64
      string_divides = unit_pos (64 - (8 * (v - 1) - u)) string_unit

      -- it was read
      pub string_took : {n x : ℕ} {own : Halves} (width : Width) → Octets s → n ≡ bits width → 8 * (v - 1) - u ≤ n → x ≡ value (take 8 (take 8 (drop 3 s)))
          → own ≡ halves (zero_filled 128 (8 * (v - 1)) (x * 2 ^ 64 + 0)) → own.upper < 2 ^ 64 → own.upper % (1 * 2 ^ (64 - (8 * (v - 1) - u)) % 2 ^ 64) ≡ 0
          → BriefBits (bits width) s (Some (record { count = 8 * (v - 1) - u; bits = own.upper }, 3 + (v - 1)))
      string_took {n} {x} {own} width o d g i c h z =
          let long = brief_long BIT_STRING 2 9 s p y in
          let least = brief_least BIT_STRING 2 9 s p y in
          let most = brief_most BIT_STRING 2 9 s p y in
          let m = width_octets width in
          let some : 1 ≤ v - 1 = omega arith in
          let few : v - 1 ≤ 8 = omega arith in
          let fits : 8 * (v - 1) - get_or s 2 0 ≤ bits width = omega arith in
          let j : ℕ = 64 - 8 * (v - 1) in
          let b : ℕ = value (take (v - 1) (drop 3 s)) in
          let r : ℕ = own.upper in
          let cut : r ≡ x / 2 ^ j * 2 ^ j = ap (λ (h : Halves). h.upper) c ∙ word_cut x (8 * (v - 1)) string_most in
          let w : r ≡ b * 2 ^ j = rw (i, of_eight (v - 1) 3 s o few (omega arith)) at cut in
          let k : 64 - (8 * (v - 1) - u) ≡ get_or s 2 0 + j = omega arith in
          let zeros : r % 2 ^ (64 - (8 * (v - 1) - u)) ≡ 0 = rw (unit_is (64 - (8 * (v - 1) - u)) string_unit) at z in
          let a : b % 2 ^ get_or s 2 0 ≡ 0 = zeros_of b (get_or s 2 0) j (rw (k, w) at zeros) in
          let (t, begins) = string_octets (bits width) (v - 1) s o m.0 some few long l fits a in
          let x : ℕ = b * 2 ^ (bits width - 8 * (v - 1)) in
          let wide : 8 * (v - 1) ≤ bits width = omega arith in
          let number : x ≡ placed_bits (bits width) r = sym (ap (placed_bits (bits width)) w ∙ placed_at (bits width) (8 * (v - 1)) b string_most wide) in
          let whole_of : suc (v - 1) ≡ v = omega arith in
          let taken : 3 + (v - 1) ≡ 2 + v = omega arith in
          let string : take v (drop 2 s) ≡ bits_of (bits width) (8 * (v - 1) - u) (placed_bits (bits width) r) = rw (whole_of, number, ← f) at t in
          let all = headed v s (omega arith) (sym e) (omega arith) in
          let starts : Starts s (3 + (v - 1)) (element BIT_STRING (bits_of (bits width) (8 * (v - 1) - u) (placed_bits (bits width) r))) = rw taken (omega arith, rw (brief_tag BIT_STRING 2 9 s p y, string) at all) in
          (rw w (placed_within (bits width) (8 * (v - 1)) b string_most wide), omega arith, (omega arith, rw number at begins.below, rw (number, ← f) at begins.zeros, starts, (omega arith, omega arith, h, zeros)))
