-- The one form of a row's addresses, from the shape that the code is told. Theorems. Assumes nothing.
--     shape_prefix, shape_range        what `Span::form` answers
--     AsPrefix, AsRange        what a form says of the octets.      as_prefix_lem, as_range_lem      and the answer's form does
--     range_two, kept_two        how many octets min and max have.      prefix_is        a prefix with its bits
--     range_below, range_is        a range with max as the code fills it in
use mathlib.Core.Path.{◌≡◌, refl, sym, ap, ◌∙◌}
use mathlib.Core.List.{◌++◌}
use Prim.Native.Nat.{ℕ, ◌^◌, ◌≤◌, ◌<◌}
use native.Mathlib.Nat.{lt_of_le_of_lt}
use native.Mathlib.Omega.{arith}
use Rattle.number.specs.Halves.{whole, halves, bits}
use Rattle.number.specs.Kept.{kept_min, kept_max, zero_filled}
use Rattle.number.specs.Shape.{shape_of}
use Rattle.number.specs.Address.{address_of, number_of}
use Rattle.number.specs.declared.halves.Halves.{Halves}
use Rattle.number.specs.declared.halves.Width.{Width}
use Rattle.number.specs.declared.address.Address.{Address}
use Rattle.number.proofs.TwoHalves.{whole_halves}
use Rattle.number.proofs.laws.Address.{address_is}
use Rattle.der.specs.Tags.{BIT_STRING, SEQUENCE}
use Rattle.der.specs.Head.{element}
use Rattle.der.specs.Bits.{bits_of, bits_size}
use Rattle.values.specs.Forms.{Form, formed, form_of}
use Rattle.values.specs.Encode.{address_octets}
use Rattle.values.proofs.laws.Forms.{Parts, form_parts}
use Rattle.writer.specs.Writer.{form_seen, element_size}
use Rattle.writer.specs.declared.Form as code
use Rattle.writer.specs.declared.Bits.{Bits}
use Rattle.writer.specs.declared.Span.{Span}
use Rattle.writer.specs.declared.Form.TheVariants as form
use Rattle.writer.proofs.Sizing.{Two, bits_most, bits_two}
use Rattle.std.specs.Prelude.{Option, Some, None}

-- the shape of two addresses
module _ {s : (Option ℕ)} {a b : Address} (width : Width) (low high : ℕ) (l : low ≤ high) (h : high < 2 ^ bits width)
    (p : a ≡ address_of width low) (q : b ≡ address_of width high) (e : s ≡ shape_of (bits a.width) (number_of a) (number_of b)) where
  -- is that of their numbers
  told : s ≡ shape_of (bits width) low high
  told =
      let i : a.width ≡ width = ap (λ (x : Address). x.width) p in
      e ∙ rw (address_is width low a (lt_of_le_of_lt l h) p, address_is width high b h q, i)

  -- a prefix
  pub shape_prefix : (n : ℕ) → s ≡ Some n → form.Prefix n ≡ form_seen (form_of (bits width) low high)
  unfolding form_of
  shape_prefix n g = rw (← told, g)

  -- or a range
  pub shape_range : {n m : ℕ} → s ≡ None → n ≡ kept_min (bits width) low → m ≡ kept_max (bits width) high → form.Range n m ≡ form_seen (form_of (bits width) low high)
  unfolding form_of
  shape_range g i j = rw (← told, g, ← i, ← j)

-- the octets of a prefix of n bits
pub record AsPrefix (s : Span) (n : ℕ) : Type 0 where
  pub fits : n ≤ bits s.width
  pub few : bits_size n ≤ 17
  pub below : whole s.low < 2 ^ bits s.width
  pub is : address_octets (bits s.width) (whole s.low, whole s.high) ≡ element BIT_STRING (bits_of (bits s.width) n (whole s.low))

-- and of a range of n and m bits
pub record AsRange (s : Span) (n m : ℕ) : Type 0 where
  pub fits : n ≤ bits s.width
  pub fits_max : m ≤ bits s.width
  pub few : bits_size n ≤ 17
  pub few_max : bits_size m ≤ 17
  pub below : whole s.low < 2 ^ bits s.width
  pub below_max : zero_filled (bits s.width) m (whole s.high) < 2 ^ bits s.width
  pub is : address_octets (bits s.width) (whole s.low, whole s.high)
      ≡ element SEQUENCE (element BIT_STRING (bits_of (bits s.width) n (whole s.low)) ++ element BIT_STRING (bits_of (bits s.width) m (zero_filled (bits s.width) m (whole s.high))))

-- a range is no prefix
apart : {n k m : ℕ} → form.Range k m ≡ form.Prefix n → ⊥
apart e = let z : ◌≡◌ {A = ℕ} 0 1 = cc in omega arith

-- what the code was told is so
module _ {f : code.Form} (s : Span) (e : f ≡ form_seen (form_of (bits s.width) (whole s.low) (whole s.high))) where
  abbrev shape : Option ℕ
  shape = shape_of (bits s.width) (whole s.low) (whole s.high)

  abbrev shaped : Option ℕ → Form
  shaped t = formed (bits s.width) (whole s.low) (whole s.high) t

  parts : Parts (bits s.width) (form_of (bits s.width) (whole s.low) (whole s.high))
  parts = form_parts (bits s.width) (whole s.low) (whole s.high) s.order s.fits

  -- of a prefix
  pub as_prefix_lem : (n : ℕ) → f ≡ form.Prefix n → AsPrefix s n
  unfolding form_of address_octets
  as_prefix_lem n g = go shape refl (sym e ∙ g) parts
    where
      go : (t : Option ℕ) → shape ≡ t → form_seen (shaped t) ≡ form.Prefix n → Parts (bits s.width) (shaped t) → AsPrefix s n
      go (Some k) i q p =
          let j : k ≡ n = cc in
          rw (← j) (record { fits = p.fits; few = bits_most s.width k p.fits; below = p.below; is = rw i })
      go None i q p = absurd (apart q)

  -- of a range
  pub as_range_lem : (n m : ℕ) → f ≡ form.Range n m → AsRange s n m
  unfolding form_of address_octets
  as_range_lem n m g = go shape refl (sym e ∙ g) parts
    where
      go : (t : Option ℕ) → shape ≡ t → form_seen (shaped t) ≡ form.Range n m → Parts (bits s.width) (shaped t) → AsRange s n m
      go (Some k) i q p = absurd (apart (sym q))
      go None i q (p, r) =
          let j : kept_min (bits s.width) (whole s.low) ≡ n = cc in
          let o : kept_max (bits s.width) (whole s.high) ≡ m = cc in
          rw (← j, ← o)
          (record {
            fits = p.fits;
            fits_max = r.fits;
            few = bits_most s.width (kept_min (bits s.width) (whole s.low)) p.fits;
            few_max = bits_most s.width (kept_max (bits s.width) (whole s.high)) r.fits;
            below = p.below;
            below_max = r.below;
            is = rw i;
          })

-- the elements of min and max, counted
pub range_two : {s : Span} {n m k l a b : ℕ} → AsRange s n m → k ≡ bits_size n → l ≡ bits_size m → a ≡ element_size k → b ≡ element_size l
    → Two BIT_STRING (bits_of (bits s.width) n (whole s.low)) (bits_of (bits s.width) m (zero_filled (bits s.width) m (whole s.high))) a b
range_two {s} {n} {m} r e f g h = bits_two s.width s.width n (whole s.low) m (zero_filled (bits s.width) m (whole s.high)) r.fits r.fits_max e f g h

-- and of any two addresses
pub kept_two : (s t : Bits) {k l a b : ℕ} → k ≡ bits_size s.count → l ≡ bits_size t.count → a ≡ element_size k → b ≡ element_size l
    → Two BIT_STRING (bits_of (bits s.width) s.count (whole s.address)) (bits_of (bits t.width) t.count (whole t.address)) a b
kept_two s t e f g h = bits_two s.width t.width s.count (whole s.address) t.count (whole t.address) s.kept t.kept e f g h

-- a prefix as the code has it
pub prefix_is : {s : Span} {n : ℕ} (b : Bits) → AsPrefix s n → (b.width ≡ s.width) × (b.count ≡ n) × (b.address ≡ s.low) → address_octets (bits s.width) (whole s.low, whole s.high) ≡ element BIT_STRING (bits_of (bits b.width) b.count (whole b.address))
prefix_is b p (w, c, a) = p.is ∙ rw (w, c, a)

-- a range, with max as the code fills it in
module _ {s : Span} {n m : ℕ} (z : Halves) (p : AsRange s n m) (e : z ≡ halves (zero_filled (bits s.width) m (whole s.high))) where
  -- is that of the form
  filled : whole z ≡ zero_filled (bits s.width) m (whole s.high)
  filled = ap whole e ∙ whole_halves (zero_filled (bits s.width) m (whole s.high))

  -- and has the width's bits
  pub range_below : whole z < 2 ^ bits s.width
  range_below = rw filled p.below_max

  -- so the octets are those of the range
  pub range_is : (b : Bits) → (b.width ≡ s.width) × (b.count ≡ n) × (b.address ≡ s.low)
      → address_octets (bits s.width) (whole s.low, whole s.high) ≡ element SEQUENCE (element BIT_STRING (bits_of (bits b.width) b.count (whole b.address)) ++ element BIT_STRING (bits_of (bits s.width) m (whole z)))
  range_is b (w, c, a) = rw (filled, w, c, a) p.is
