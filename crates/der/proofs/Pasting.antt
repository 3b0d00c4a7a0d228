-- Octets written into a run, as the code of the three functions `put` writes them. Theorems. Assumes nothing.
--     copied       what `writing::put` writes.      past_end, past_room      nothing is written
--     few_octets, integer_put      what `integers::put` writes
--     many_bits, bits_past, bits_room, bits_put        what `bits::put` writes
use mathlib.Core.Path.{◌≡◌, sym, ap, ◌∙◌}
use mathlib.Core.List.{List, [], ◌∷◌, append_assoc}
use Prim.Native.Nat.{ℕ, ◌+◌, ◌-◌, ◌*◌, ◌/◌, ◌^◌, ◌≤◌, ◌<◌}
use native.Mathlib.Nat.{lt_of_lt_of_le}
use native.Mathlib.Omega.{arith}
use borrow.Author.Tests.{lt-ltb}
use lib.ListN.{length, take, drop, set}
use lib.Pow.{pow_mono}
use lib.Seq.{length-take-le, drop-drop}
use borrow.Rule.Slice.PartMut.{put_mid}
use Rattle.number.specs.Address.{sixteen, address_of}
use Rattle.number.specs.declared.halves.Width.TheVariants.{Bits128}
use Rattle.number.specs.declared.address.Address.{Address}
use Rattle.der.specs.Integer.{integer_size, integer_octets}
use Rattle.der.specs.Written.{written, address_bits, bits_written}
use Rattle.der.proofs.Tails.{last_octets}
use Rattle.der.proofs.laws.Integers.{size_takes}
use Rattle.der.proofs.laws.Writing.{written_fits, written_past, written_one, written_on, bits_written_lem}

-- the octets, where they fit
pub copied : (out : List ℕ) (at n : ℕ) (s l : List ℕ) → at ≤ length out → (length out - at < length s → ⊥) → n ≡ length s → l ≡ s → put_mid at n out l ≡ written out at s
copied out at n s l h g e f =
    let m : at + length s ≤ length out = omega arith in
    rw (e, f, written_fits out at s m) (simp (drop-drop, append_assoc))

-- the place lies after the end
pub past_end : (out : List ℕ) (at : ℕ) (s : List ℕ) → length out < at → out ≡ written out at s
past_end out at s h = sym (written_past out at s (omega arith))

-- there is too little room after it
pub past_room : (out : List ℕ) (at : ℕ) (s : List ℕ) → at ≤ length out → length out - at < length s → out ≡ written out at s
past_room out at s h g = sym (written_past out at s (omega arith))

-- the octets of an INTEGER of 32 bits
module _ {k : ℕ} (x : ℕ) (b : x < 2 ^ 32) (e : k ≡ integer_size x) where
  -- are no more than an address has
  pub few_octets : k ≤ 16
  few_octets = let (m, f, g, t) = size_takes x (omega arith) in omega arith

  -- and they are the last ones of an address of 128 bits
  integer_last : take (16 - (16 - k)) (drop (16 - k) (sixteen 128 x)) ≡ integer_octets x
  unfolding integer_octets
  integer_last =
      let (m, f, g, t) = size_takes x (omega arith) in
      let i : 16 - (16 - k) ≡ k = omega arith in
      let l : x < 2 ^ (8 * k) = lt_of_lt_of_le t.above (pow_mono {i = 7 + 8 * m} {j = 8 * k} (omega arith)) in
      rw (i, ← e) (last_octets 128 (16 - k) k x (omega arith) l)

  -- so they are written
  pub integer_put : {r : List ℕ} {a : Address} (out : List ℕ) (at : ℕ) → a ≡ address_of Bits128 (0 * 2 ^ 64 + x) → r ≡ written out at (take (16 - (16 - k)) (drop (16 - k) a.octets)) → r ≡ written out at (integer_octets x)
  integer_put {r} {a} out at p q =
      let i : 0 * 2 ^ 64 + x ≡ x = omega arith in
      q ∙ ap (written out at) (ap (λ (z : Address). take (16 - (16 - k)) (drop (16 - k) z.octets)) (rw i at p) ∙ integer_last)

-- the first n bits of an address
module _ (out : List ℕ) (at n : ℕ) (a : Address) where
  -- there are not so many
  pub many_bits : 128 < n → out ≡ bits_written out at n a
  unfolding bits_written
  many_bits h = rw (lt-ltb 128 n h)

  module _ (s : length a.octets ≡ 16) (h : n ≤ 128) where
    -- how many octets they take
    bits_octets : length (take ((n + 7) / 8) a.octets) ≡ (n + 7) / 8
    bits_octets = length-take-le ((n + 7) / 8) a.octets (omega arith)

    -- there is no room for them
    bits_out : length out < at + ((n + 7) / 8 + 1) → out ≡ bits_written out at n a
    unfolding address_bits
    bits_out g = rw (bits_written_lem out at n a h) (sym (written_past out at (address_bits n a) (omega (arith, bits_octets))))

    -- the place lies after the end
    pub bits_past : length out < at → out ≡ bits_written out at n a
    bits_past g = bits_out (omega arith)

    -- or too little is left after it
    pub bits_room : at ≤ length out → length out - at < (n + 7) / 8 + 1 → out ≡ bits_written out at n a
    bits_room g i = bits_out (omega arith)

    -- the initial octet, and then the others
    pub bits_put : {r : List ℕ} {u : ℕ} → at ≤ length out → (n + 7) / 8 + 1 ≤ length out - at → u ≡ 8 * ((n + 7) / 8) - n → r ≡ written (set out at u) (at + 1) (take ((n + 7) / 8 - 0) a.octets) → r ≡ bits_written out at n a
    unfolding address_bits
    bits_put {r} {u} g i e q =
        let l = bits_octets in
        let z : (n + 7) / 8 - 0 ≡ (n + 7) / 8 = omega arith in
        rw (bits_written_lem out at n a h, ← e) (q ∙ rw (z, written_one out at u (omega arith)) (written_on out at (u ∷ []) (take ((n + 7) / 8) a.octets) (omega arith)))
