-- What the code of `addresses` finds at each of its ends, in the terms of the definitions. Theorems. Assumes nothing.
--     Strung, bits_..      `bits_at`.      prefix_..       `prefix_at`.
--     ranged_..        `range_row`.        range_..        `range_at`
use mathlib.Core.Path.{◌≡◌, refl, sym, ap, ◌∙◌}
use mathlib.Core.List.{List}
use mathlib.Core.Bool.{Bool, true, false}
use Prim.Native.Nat.{ℕ, ◌-◌, ◌^◌, ◌≤◌, ◌<◌}
use native.Mathlib.Omega.{arith}
use lib.Dec.{ltb, eqb}
use lib.ListN.{length, take, drop}
use borrow.Author.Tests.{eq-eqb, ne_eqb}
use Rattle.number.specs.Halves.{whole, halves, bits}
use Rattle.number.specs.Octets.{Octets}
use Rattle.number.specs.Address.{address_of, number_of}
use Rattle.number.specs.Kept.{kept_min, kept_max, one_filled}
use Rattle.number.specs.Shape.{is_prefix}
use Rattle.number.specs.declared.halves.Halves.{Halves}
use Rattle.number.specs.declared.halves.Width.{Width}
use Rattle.number.specs.declared.refusal.Refusal.{Refusal}
use Rattle.number.specs.declared.refusal.Refusal.TheVariants as refusal
use Rattle.number.proofs.Sixteen.{width_octets}
use Rattle.number.proofs.TwoHalves.{halves_whole, whole_halves}
use Rattle.number.proofs.laws.Address.{address_is}
use Rattle.number.proofs.laws.Octets.{octets_part}
use Rattle.table.specs.Rows.{in_halves}
use Rattle.table.specs.Spaces.{width_of}
use Rattle.table.specs.declared.rows.Row.{Row}
use Rattle.der.specs.Tags.{BIT_STRING}
use Rattle.der.specs.Bits.{Bits, begun, bad, read_bits, addressed, bit_string_of}
use Rattle.der.specs.Opening.{opening_of}
use Rattle.der.specs.Parts.{part}
use Rattle.der.specs.declared.bits.BitString.{BitString}
use Rattle.der.proofs.laws.Bits.{bits_of_lem}
use Rattle.values.specs.Faults.{Fault, at}
use Rattle.values.specs.Forms.{Span, span, span_of, none, ranged}
use Rattle.values.specs.Addresses.{bits_contents, bits_at, range_at, prefix_at, range_row_at, spanned, as_prefix}
use Rattle.values.specs.Choices.{listed_row}
use Rattle.values.specs.Seen.{bits_seen, BitsIn, bounds_at_seen, BoundsAtIn, ranged_seen}
use Rattle.values.proofs.Joins.{Refused, Took, tag_refused, tag_isnt, tag_took, sift_refused, sift_isnt, sift_took}
use Rattle.values.proofs.RowReads.{row_made, Rowed, row_took}
use Rattle.der.specs.Opening.{Opening}
use Rattle.std.specs.Prelude.{Ok, Err}
use Rattle.values.specs.Faults.{Taken}
use Rattle.values.specs.declared.addresses.Start as begun
use Rattle.std.specs.Prelude.{Option, Some, None}

-- how many bits the numbers of the space a have
abbrev across : ℕ → ℕ
across a = bits (width_of a)

-- low and high of a range by the bits of its min and max
abbrev range_of : ℕ → ℕ → Halves → ℕ → Halves → Span
range_of a n min m max = ranged (across a) n (whole min) m (one_filled (across a) m (whole max))

-- what `bits::read` answers of contents c: none
none_read : (width : Width) (o : Bits) → addressed width o ≡ None → o ≡ bad
none_read width (begun n x) h = let z : ◌≡◌ {A = ℕ} 0 1 = cc in absurd (omega arith)
none_read width bad h = refl

-- or bits, and the address that they begin
some_read : (width : Width) (c : List ℕ) → Octets c → (o : Bits) (b : BitString) → read_bits (bits width) c ≡ o → addressed width o ≡ Some b
    → (o ≡ begun b.count (number_of b.address)) × (number_of b.address < 2 ^ bits width)
some_read width c q (begun n x) b e h =
    let l = (bits_of_lem (bits width) n x c (width_octets width).0 q e).1.below in
    let v : number_of (address_of width x) ≡ x = address_is width x (address_of width x) l refl in
    let g : record { count = n; address = address_of width x } ≡ b = cc in
    rw (← g) (ap (begun n) (sym v), rw v l)
some_read width c q bad b e h = let z : ◌≡◌ {A = ℕ} 0 1 = cc in absurd (omega arith)

-- n bits that were taken, and an address of w bits
pub record Strung (w : ℕ) (s : List ℕ) (n : ℕ) (x : Halves) (k : ℕ) : Type 0 where
  pub ends : Took (bits_at w s) s (n, whole x) k
  pub below : whole x < 2 ^ w

-- as a contract has it
pub strung : {w : ℕ} {s : List ℕ} {n : ℕ} {x : Halves} {k : ℕ} → Strung w s n x k → (part (n, whole x) (drop k s) ≡ bits_at w s) × ((whole x < 2 ^ w) × ((0 < k) × (k ≤ length s)))
strung r = let t = r.ends in (t.told, (r.below, (t.some, t.inside)))

-- the ends of `bits_at`
module _ {r : Opening} (width : Width) (s : List ℕ) (p : r ≡ opening_of BIT_STRING s) where
  -- the head is refused
  pub bits_refused : (f : Refusal) → r ≡ Err f → Refused (bits_at (bits width) s) (length s) (at 0 f)
  unfolding bits_at
  bits_refused f q = tag_refused BIT_STRING s p _ f q

  module _ {o : Option BitString} (k e : ℕ) (q : r ≡ Ok (k, e)) (g : o ≡ bit_string_of width (take (e - k) (drop k s))) where
    -- the contents are
    pub bits_isnt : o ≡ None → Refused (bits_at (bits width) s) (length s) (at 0 refusal.Contents)
    unfolding bits_at bit_string_of
    bits_isnt h = tag_isnt BIT_STRING s p k e q _ (at 0 refusal.Contents) (ap bits_contents (none_read width (read_bits (bits width) (take (e - k) (drop k s))) (rw g at h))) (omega arith)

    -- bits were read
    pub bits_took : {h : Halves} (b : BitString) → Octets s → o ≡ Some b → h ≡ halves (number_of b.address) → Strung (bits width) s b.count h e
    unfolding bits_at bit_string_of
    bits_took {h} b u y v =
        let c = take (e - k) (drop k s) in
        let (i, l) = some_read width c (octets_part k (e - k) s u) (read_bits (bits width) c) b refl (rw g at y) in
        let u : number_of b.address ≡ whole h = sym (ap whole v ∙ whole_halves (number_of b.address)) in
        record { ends = tag_took BIT_STRING s p k e q (λ k c. bits_contents (read_bits (bits width) c)) (b.count, whole h) (rw u at (ap bits_contents i)); below = rw u at l }

-- what `bits_at` answered
module _ {r : Taken begun.Start} (w : ℕ) (s : List ℕ) (p : bits_seen s r ≡ bits_at w s) (i : BitsIn w (length s) r) where
  -- a refusal
  bits_bad : (f : Fault) → r ≡ Err f → Refused (bits_at w s) (length s) f
  bits_bad f h = record { told = rw h at p; inside = rw h at i }

  module _ (b : begun.Start) (k : ℕ) (h : r ≡ Ok (b, k)) where
    -- bits
    bits_is : Strung w s b.bits b.address k
    bits_is = let (y, (l, m)) = rw h at i in record { ends = record { told = rw h at p; some = l; inside = m }; below = y }

-- the ends of `prefix_at`
module _ {v : Width} {r : Taken begun.Start} (a : ℕ) (s : List ℕ) (e : v ≡ width_of a) (p : bits_seen s r ≡ bits_at (bits v) s) (i : BitsIn (bits v) (length s) r) where
  -- nothing was read
  pub prefix_refused : (f : Fault) → r ≡ Err f → Refused (prefix_at (across a) s) (length s) f
  unfolding prefix_at
  prefix_refused f h = sift_refused (λ (b : ℕ × ℕ). spanned (span_of (across a) (as_prefix b))) (bits_at (across a) s) (length s) f (rw e at (bits_bad (bits v) s p i f h))

  -- a prefix
  pub prefix_took : {row : Row} (b : begun.Start) (k : ℕ) → r ≡ Ok (b, k) → row ≡ in_halves (listed_row a (whole b.address, one_filled (across a) b.bits (whole b.address)))
      → Rowed (prefix_at (across a) s) a s row k
  unfolding prefix_at
  prefix_took b k h g =
      row_took (prefix_at (across a) s) a s (whole b.address) (one_filled (across a) b.bits (whole b.address)) k g
      (sift_took (λ (b : ℕ × ℕ). spanned (span_of (across a) (as_prefix b))) (bits_at (across a) s) s (b.bits, whole b.address) k (rw e at (bits_is (bits v) s p i b k h).ends) _ refl)

-- the ends of `range_row`: high is max with ones after its bits
module _ {v : Width} {high : Halves} {t : Bool} (a n : ℕ) (low : Halves) (m : ℕ) (max : Halves) (e : v ≡ width_of a) (p : high ≡ halves (one_filled (bits v) m (whole max)))
    (b : t ≡ ltb (whole low) (whole high)) where
  -- its number
  high_is : whole high ≡ one_filled (across a) m (whole max)
  high_is = rw e at (ap whole p ∙ whole_halves (one_filled (bits v) m (whole max)))

  -- the test that min is below max
  below_is : {u : Bool} → t ≡ u → ltb (whole low) (one_filled (across a) m (whole max)) ≡ u
  below_is h = rw (← high_is) (sym b ∙ h)

  -- min is not below max
  pub ranged_order : t ≡ false → None ≡ ranged_seen a (range_of a n low m max)
  unfolding ranged
  ranged_order h = rw (below_is h)

  module _ {k : ℕ} (h : t ≡ true) (c : k ≡ kept_min (bits v) (whole low)) where
    -- min keeps a trailing zero, or lacks a bit
    pub ranged_min : (n ≡ k → ⊥) → None ≡ ranged_seen a (range_of a n low m max)
    unfolding ranged
    ranged_min i = rw (below_is h, ne_eqb n (kept_min (across a) (whole low)) (rw (c, e) at i))

    module _ {l : ℕ} (i : n ≡ k) (d : l ≡ kept_max (bits v) (whole high)) where
      -- the test of min
      min_is : eqb n (kept_min (across a) (whole low)) ≡ true
      min_is = eq-eqb _ _ (rw (c, e) at i)

      -- max keeps a trailing one, or lacks a bit
      pub ranged_max : (m ≡ l → ⊥) → None ≡ ranged_seen a (range_of a n low m max)
      unfolding ranged
      ranged_max j = rw (below_is h, min_is, ne_eqb m (kept_max (across a) (one_filled (across a) m (whole max))) (rw (d, high_is, e) at j))

      module _ {s : Bool} (j : m ≡ l) (q : s ≡ is_prefix (bits v) (whole low) (whole high)) where
        -- the test of max
        max_is : eqb m (kept_max (across a) (one_filled (across a) m (whole max))) ≡ true
        max_is = eq-eqb _ _ (rw (d, high_is, e) at j)

        -- the test of the shape
        shape_is : {u : Bool} → s ≡ u → is_prefix (across a) (whole low) (one_filled (across a) m (whole max)) ≡ u
        shape_is o = rw (e, high_is) at (sym q ∙ o)

        -- a prefix is no range
        pub ranged_prefix : s ≡ true → None ≡ ranged_seen a (range_of a n low m max)
        unfolding ranged
        ranged_prefix o = rw (below_is h, min_is, max_is, shape_is o)

        -- a range
        pub ranged_row : s ≡ false → low.lower < 2 ^ 64 → Some (record { space = a; inherit = 0; low = low; high = high }) ≡ ranged_seen a (range_of a n low m max)
        unfolding ranged
        ranged_row o z =
            rw (below_is h, min_is, max_is, shape_is o)
            (ap Some (row_made a (whole low) (one_filled (across a) m (whole max)) (halves_whole low z) (rw e at p)))

-- what `range_row` answered: none
ranged_none : (a : ℕ) (o : Span) → None ≡ ranged_seen a o → o ≡ none
ranged_none a (span x y) h = let z : ◌≡◌ {A = ℕ} 0 1 = cc in absurd (omega arith)
ranged_none a none h = refl

-- or a row
ranged_some : (a : ℕ) (o : Span) (r : Row) → Some r ≡ ranged_seen a o → (o ≡ span (whole r.low) (whole r.high)) × (r ≡ in_halves (listed_row a (whole r.low, whole r.high)))
ranged_some a (span x y) r h =
    let e : r ≡ in_halves (listed_row a (x, y)) = cc in
    rw (e, whole_halves x, whole_halves y) (refl, refl)
ranged_some a none r h = let z : ◌≡◌ {A = ℕ} 0 1 = cc in absurd (omega arith)

-- the ends of `range_at`: what `bounds_at` answered
module _ {v : Width} {b : Taken (begun.Start × begun.Start)} (a : ℕ) (s : List ℕ) (e : v ≡ width_of a) (p : bounds_at_seen s b ≡ range_at (bits v) s) (i : BoundsAtIn (bits v) (length s) b) where
  -- a refusal
  pub range_refused : (f : Fault) → b ≡ Err f → Refused (range_row_at (across a) s) (length s) f
  unfolding range_row_at
  range_refused f h =
      let r : Refused (range_at (bits v) s) (length s) f = record { told = rw h at p; inside = rw h at i } in
      sift_refused _ (range_at (across a) s) (length s) f (rw e at r)

  module _ (d : begun.Start × begun.Start) (k : ℕ) (h : b ≡ Ok (d, k)) where
    -- min and max
    range_is : Took (range_at (across a) s) s ((d.0.bits, whole d.0.address), (d.1.bits, whole d.1.address)) k
    range_is =
        let (u, w, (g, j)) = rw h at i in
        let t : Took (range_at (bits v) s) s ((d.0.bits, whole d.0.address), (d.1.bits, whole d.1.address)) k = record { told = rw h at p; some = g; inside = j } in
        rw e at t

    module _ {r : Option Row} (u : r ≡ ranged_seen a (range_of a d.0.bits d.0.address d.1.bits d.1.address)) where
      -- they are not the one form of a range
      pub range_none : r ≡ None → Refused (range_row_at (across a) s) (length s) (at 0 refusal.RangeForm)
      unfolding range_row_at
      range_none z = sift_isnt _ (range_at (across a) s) s _ k range_is refusal.RangeForm (ap spanned (ranged_none a (range_of a d.0.bits d.0.address d.1.bits d.1.address) (sym z ∙ u)))

      -- a range
      pub range_took : (w : Row) → r ≡ Some w → Rowed (range_row_at (across a) s) a s w k
      unfolding range_row_at
      range_took w z =
          let (c, l) = ranged_some a (range_of a d.0.bits d.0.address d.1.bits d.1.address) w (sym z ∙ u) in
          row_took (range_row_at (across a) s) a s (whole w.low) (whole w.high) k l (sift_took _ (range_at (across a) s) s _ k range_is _ (ap spanned c))
