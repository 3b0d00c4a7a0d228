-- An element written into a run piece by piece, as the code does it: its head, then its contents. Theorems. Assumes nothing.
--     element_put      contents at once.      bits_put, integer_put        those of a BIT STRING, and of an INTEGER
--     two_rooms, two_put       two elements in a SEQUENCE: there is room for them, and they are written
use mathlib.Core.Path.{◌≡◌, sym, ap, ◌∙◌}
use mathlib.Core.List.{List, ◌++◌}
use Prim.Native.Nat.{ℕ, ◌+◌, ◌^◌, ◌≤◌, ◌<◌}
use native.Mathlib.Omega.{arith}
use lib.ListN.{length, length-append}
use Rattle.number.specs.Halves.{bits}
use Rattle.number.specs.Address.{address_of}
use Rattle.number.specs.declared.halves.Width.{Width}
use Rattle.number.specs.declared.address.Address.{Address}
use Rattle.number.proofs.Sixteen.{width_octets}
use Rattle.der.specs.Tags.{INTEGER, BIT_STRING, SEQUENCE}
use Rattle.der.specs.Head.{element, head_octets, head_size}
use Rattle.der.specs.Bits.{bits_of, bits_size}
use Rattle.der.specs.Integer.{integer_size, integer_octets}
use Rattle.der.specs.Written.{written, head_written, bits_written}
use Rattle.der.proofs.laws.Heads.{head_size_lem, element_size_lem}
use Rattle.der.proofs.laws.Bits.{bits_size_lem}
use Rattle.der.proofs.laws.Integers.{integer_size_lem, integer_most}
use Rattle.der.proofs.laws.Writing.{length-written, written_on, head_written_lem, element_is, address_bits_lem, bits_written_lem}
use Rattle.writer.proofs.Sizing.{Two, bits_most}

-- contents c of k octets, after a head of h
module _ {k h : ℕ} (out : List ℕ) (at tag : ℕ) (c : List ℕ) (e : length c ≡ k) (g : h ≡ head_size k) (f : at + length (element tag c) ≤ length out) where
  -- there is room for them
  element_room : at + h + k ≤ length out
  element_room = omega (arith, rw e at (element_size_lem tag c))

  -- the head, and then they
  pub element_put : {p r : List ℕ} → k ≤ 65535 → p ≡ head_written out at tag k → r ≡ written p (at + h) c → r ≡ written out at (element tag c)
  element_put {p} {r} b i j =
      let l : length (head_octets tag k) ≡ h = head_size_lem tag k ∙ sym g in
      let m : at + length (head_octets tag k) + length c ≤ length out = omega (arith, element_room) in
      j ∙ rw (i, head_written_lem out at tag k b, ← l) (written_on out at (head_octets tag k) c m ∙ rw (← e, ← element_is tag c))

-- there is room for the octets s at a place, and for u after the first k from there
pub record Rooms (out : List ℕ) (at k : ℕ) (s u : List ℕ) : Type 0 where
  pub first : at + length s ≤ length out
  pub second : at + k + length u ≤ length out

-- two elements of a and b octets in a SEQUENCE
module _ {a b h : ℕ} (out : List ℕ) (at t : ℕ) (c d : List ℕ) (p : Two t c d a b) (g : h ≡ head_size (a + b)) (f : at + length (element SEQUENCE (element t c ++ element t d)) ≤ length out) where
  -- they are the contents
  both : length (element t c ++ element t d) ≡ a + b
  both = omega (arith, p, length-append (element t c) (element t d))

  -- there is room for them
  pub two_rooms : Rooms out (at + h) a (element t c) (element t d)
  two_rooms = let z = element_room out at SEQUENCE (element t c ++ element t d) both g f in record { first = omega (arith, p); second = omega (arith, p) }

  -- the head, and then they
  pub two_put : {u v r : List ℕ} → u ≡ head_written out at SEQUENCE (a + b) → v ≡ written u (at + h) (element t c) → r ≡ written v (at + h + a) (element t d)
      → r ≡ written out at (element SEQUENCE (element t c ++ element t d))
  two_put {u} {v} {r} j n o =
      let m : a + b ≤ 65535 = omega (arith, p) in
      let w : length u ≡ length out = ap length (j ∙ head_written_lem out at SEQUENCE (a + b) m) ∙ length-written out at (head_octets SEQUENCE (a + b)) in
      let y : at + h + length (element t c) + length (element t d) ≤ length u = omega (arith, two_rooms, p) in
      element_put out at SEQUENCE (element t c ++ element t d) both g f m j (o ∙ rw (n, ← p.first) (written_on u (at + h) (element t c) (element t d) y))

-- a BIT STRING of the first n bits of an address
module _ {k h : ℕ} (out : List ℕ) (at : ℕ) (width : Width) (n x : ℕ) (e : k ≡ bits_size n) (g : h ≡ head_size k)
    (f : at + length (element BIT_STRING (bits_of (bits width) n x)) ≤ length out) where
  -- is written
  pub bits_put : {a : Address} {p r : List ℕ} → n ≤ bits width → x < 2 ^ bits width → a ≡ address_of width x → p ≡ head_written out at BIT_STRING k → r ≡ bits_written p (at + h) n a
      → r ≡ written out at (element BIT_STRING (bits_of (bits width) n x))
  bits_put {a} {p} {r} l b i j q =
      let (d, m) = width_octets width in
      let w : bits_written p (at + h) n a ≡ written p (at + h) (bits_of (bits width) n x) = bits_written_lem p (at + h) n a (omega arith) ∙ rw (i, address_bits_lem width n x l b) in
      element_put out at BIT_STRING (bits_of (bits width) n x) (bits_size_lem (bits width) n x ∙ sym e) g f (omega (arith, bits_most width n l)) j (q ∙ w)

-- an INTEGER
module _ {k h : ℕ} (out : List ℕ) (at x : ℕ) (e : k ≡ integer_size x) (g : h ≡ head_size k) (f : at + length (element INTEGER (integer_octets x)) ≤ length out) where
  -- is written
  pub integer_put : {p r : List ℕ} → p ≡ head_written out at INTEGER k → r ≡ written p (at + h) (integer_octets x) → r ≡ written out at (element INTEGER (integer_octets x))
  integer_put {p} {r} j q = element_put out at INTEGER (integer_octets x) (integer_size_lem x ∙ sym e) g f (omega (arith, integer_most x)) j q
