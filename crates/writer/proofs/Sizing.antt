-- How many octets heads and elements have, and that they are few. Theorems. Assumes nothing.
--     bits_most      the contents of a BIT STRING that begins an address
--     Few      a size that the code gives: it is that of the octets, and at most 40.      bits_few, integer_few        one element
--     Two      the sizes of two elements.      bits_two, integer_two       BIT STRINGs, and INTEGERs.      two_few      both in a SEQUENCE
use mathlib.Core.Path.{◌≡◌, sym, ◌∙◌}
use mathlib.Core.List.{List, ◌++◌}
use Prim.Native.Nat.{ℕ, ◌+◌, ◌≤◌}
use native.Mathlib.Omega.{arith}
use lib.ListN.{length, length-append}
use Rattle.number.specs.Halves.{bits}
use Rattle.number.specs.declared.halves.Width.{Width}
use Rattle.number.proofs.Sixteen.{width_octets}
use Rattle.der.specs.Tags.{INTEGER, BIT_STRING, SEQUENCE}
use Rattle.der.specs.Head.{element}
use Rattle.der.specs.Bits.{bits_of, bits_size}
use Rattle.der.specs.Integer.{integer_size, integer_octets}
use Rattle.der.proofs.laws.Heads.{head_two, element_size_lem}
use Rattle.der.proofs.laws.Bits.{bits_size_lem}
use Rattle.der.proofs.laws.Integers.{integer_size_lem, integer_most}
use Rattle.writer.specs.Writer.{row_most, element_size}

-- the bits of an address
pub bits_most : (width : Width) (n : ℕ) → n ≤ bits width → bits_size n ≤ 17
unfolding bits_size
bits_most width n h = let (d, m) = width_octets width in omega arith

-- r is how many octets s has, and few
abbrev pub Few : ℕ → List ℕ → Type 0
Few r s = (r ≡ length s) × (r ≤ row_most)

-- elements with the contents c and d have a and b octets, few
pub record Two (t : ℕ) (c d : List ℕ) (a b : ℕ) : Type 0 where
  pub first : length (element t c) ≡ a
  pub second : length (element t d) ≡ b
  pub few : a + b ≤ 38

module _ (t : ℕ) where
  -- an element of at most 17 octets of contents
  pub one_few : {k r : ℕ} (c : List ℕ) → length c ≡ k → k ≤ 17 → r ≡ element_size k → Few r (element t c)
  one_few {k} {r} c e h g = let z = rw e at (element_size_lem t c) in let w = head_two k (omega arith) in (omega arith, omega arith)

  -- two of them
  pub two : {k l a b : ℕ} (c d : List ℕ) → length c ≡ k → length d ≡ l → k ≤ 17 → l ≤ 17 → a ≡ element_size k → b ≡ element_size l → Two t c d a b
  two {k} {l} {a} {b} c d e f h g p q =
      let u = rw e at (element_size_lem t c) in
      let v = rw f at (element_size_lem t d) in
      let x = head_two k (omega arith) in
      let y = head_two l (omega arith) in
      record { first = omega arith; second = omega arith; few = omega arith }

  -- in a SEQUENCE
  pub two_few : {a b r : ℕ} (c d : List ℕ) → Two t c d a b → r ≡ element_size (a + b) → Few r (element SEQUENCE (element t c ++ element t d))
  two_few {a} {b} {r} c d p g =
      let z : length (element t c ++ element t d) ≡ a + b = omega (arith, p, length-append (element t c) (element t d)) in
      let u = rw z at (element_size_lem SEQUENCE (element t c ++ element t d)) in
      let w = head_two (a + b) (omega (arith, p)) in
      (omega arith, omega (arith, p))

-- BIT STRINGs: one
pub bits_few : (width : Width) {k r : ℕ} (n x : ℕ) → n ≤ bits width → k ≡ bits_size n → r ≡ element_size k → Few r (element BIT_STRING (bits_of (bits width) n x))
bits_few width {k} {r} n x h e g = one_few BIT_STRING (bits_of (bits width) n x) (bits_size_lem (bits width) n x ∙ sym e) (omega (arith, bits_most width n h)) g

-- and two
pub bits_two : (v w : Width) {k l a b : ℕ} (n x m y : ℕ) → n ≤ bits v → m ≤ bits w → k ≡ bits_size n → l ≡ bits_size m → a ≡ element_size k → b ≡ element_size l
    → Two BIT_STRING (bits_of (bits v) n x) (bits_of (bits w) m y) a b
bits_two v w {k} {l} {a} {b} n x m y h i e f =
    two BIT_STRING (bits_of (bits v) n x) (bits_of (bits w) m y) (bits_size_lem (bits v) n x ∙ sym e) (bits_size_lem (bits w) m y ∙ sym f) (omega (arith, bits_most v n h)) (omega (arith, bits_most w m i))

-- INTEGERs: one
pub integer_few : {k r : ℕ} (x : ℕ) → k ≡ integer_size x → r ≡ element_size k → Few r (element INTEGER (integer_octets x))
integer_few {k} {r} x e g = one_few INTEGER (integer_octets x) (integer_size_lem x ∙ sym e) (omega (arith, integer_most x)) g

-- and two
pub integer_two : {k l a b : ℕ} (x y : ℕ) → k ≡ integer_size x → l ≡ integer_size y → a ≡ element_size k → b ≡ element_size l → Two INTEGER (integer_octets x) (integer_octets y) a b
integer_two {k} {l} {a} {b} x y e f =
    two INTEGER (integer_octets x) (integer_octets y) (integer_size_lem x ∙ sym e) (integer_size_lem y ∙ sym f) (omega (arith, integer_most x)) (omega (arith, integer_most y))
