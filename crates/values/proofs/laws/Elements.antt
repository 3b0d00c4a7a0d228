-- The elements of a list, both ways: octets, and low and high. Theorems. Assumes nothing.
--     address_laws     an address prefix or range, at any width of whole octets.       form_reads      by its form
--     id_laws      an AS number or routing domain identifier, or a range of them
--     element_laws, step_laws      an element of any list, alone and in its list
--     element_some, element_size_lem       how many octets it takes.       form_size       a prefix or range by its bits.       number_size, pair_size      an INTEGER, a range of two
use mathlib.Core.Path.{◌≡◌, refl, ap, ◌∙◌}
use mathlib.Core.List.{List, ◌++◌}
use mathlib.Core.Bool.{Bool, true, false}
use Prim.Native.Nat.{ℕ, ◌+◌, ◌%◌, ◌≤◌, ◌<◌}
use native.Mathlib.Omega.{arith}
use lib.ListN.{length, get_or, length-append}
use lib.Dec.{ltb, eqb}
use borrow.Author.Tests.{lt-ltb, eq-eqb, ne_eqb, ltb-true, eqb-true, eqb-false}
use Rattle.number.specs.Tests.{pick}
use Rattle.number.specs.Halves.{bits}
use Rattle.number.specs.Octets.{Octets}
use Rattle.number.specs.declared.refusal.Refusal.TheVariants as refusal
use Rattle.number.proofs.Picks.{pick_is}
use Rattle.number.proofs.Sixteen.{width_octets}
use Rattle.table.specs.Spaces.{width_of}
use Rattle.der.specs.Tags.{INTEGER, BIT_STRING, SEQUENCE}
use Rattle.der.specs.Head.{element}
use Rattle.der.specs.Bits.{Bits, begun, bad, read_bits, bits_of, bits_size}
use Rattle.der.specs.Integer.{integer_of, integer_octets}
use Rattle.der.specs.declared.integers.BadInteger.{BadInteger}
use Rattle.std.specs.Prelude.{Result, Ok, Err}
use Rattle.der.specs.Parts.{Contents, is, isnt, Part, part, nopart, sifted}
use Rattle.der.proofs.laws.Heads.{Sized, head_two, tag_first, element_longer, element_size_lem as whole_size}
use Rattle.der.proofs.laws.Bits.{Begins, bits_read, bits_of_lem, bits_size_lem}
use Rattle.der.proofs.laws.Integers.{integer_read, read_integer, integer_size_lem, integer_most}
use Rattle.der.proofs.laws.Walks.{Laws}
use Rattle.der.proofs.laws.Parts.{Inner, Outer, Admits, no_is, no_part, closed_was, tagged_laws, two_laws, only_laws, map_was, admitted_laws}
use Rattle.values.specs.Faults.{Fault, at}
use Rattle.values.specs.Forms.{Form, prefix, range, Span, span, none, form_of, span_of}
use Rattle.values.specs.Addresses as address
use Rattle.values.specs.Ids as id
use Rattle.values.specs.Elements.{element_at, admit_row, element_step}
use Rattle.values.specs.Encode.{form_octets, address_octets, id_octets, element_octets}
use Rattle.values.specs.declared.elements.Space.{Space}
use Rattle.values.specs.declared.elements.Space.TheVariants as space
use Rattle.values.proofs.laws.Statements.{bits_in, Fits}
use Rattle.values.proofs.laws.Forms.{Parts, form_span, form_parts, span_form}
use Rattle.values.proofs.laws.Places.{moved_inner, moved_outer}

-- bits that were read
bits_was : (o : Bits) (b : ℕ × ℕ) → address.bits_contents o ≡ is b → o ≡ begun b.0 b.1
bits_was bad b h = absurd (no_is h)
bits_was (begun n x) b h = let e : ◌≡◌ {A = ℕ × ℕ} (n, x) b = cc in ap (λ (q : ℕ × ℕ). begun q.0 q.1) e

-- low and high that were read
span_was : (o : Span) (r : ℕ × ℕ) → address.spanned o ≡ is r → o ≡ span r.0 r.1
span_was none r h = absurd (no_is h)
span_was (span low high) r h = let e : ◌≡◌ {A = ℕ × ℕ} (low, high) r = cc in ap (λ (q : ℕ × ℕ). span q.0 q.1) e

-- what was let through, by what it was before
sifted_from : {X Y : Type 0} (f : X → Contents Y Fault) (o : Part X Fault) (y : Y) (rest : List ℕ) → sifted f o ≡ part y rest → (x : X) × (o ≡ part x rest) × (f x ≡ is y)
sifted_from f (nopart e) y rest h = absurd (no_part h)
sifted_from f (part x r) y rest h = let (e, q) = closed_was (f x) y r rest h in (x, rw q, e)

-- a reader of something that is seen as a form
module _ {X : Type 0} {dec : List ℕ → Part X Fault} (w : ℕ) (form : X → Form) (laws : Outer dec (λ x. form_octets w (form x)) (λ x. Parts w (form x))) where
  -- reads the one form of low and high
  seen_reads : (x : X) (r : ℕ × ℕ) (rest : List ℕ) → span_of w (form x) ≡ span r.0 r.1 → Parts w (form x) → Sized (form_octets w (form x))
      → sifted (λ x. address.spanned (span_of w (form x))) (dec (form_octets w (form x) ++ rest)) ≡ part r rest
  seen_reads x r rest e p z = rw (laws.reads x rest p z, e)

  -- and nothing else
  seen_wrote : (s : List ℕ) (r : ℕ × ℕ) (rest : List ℕ) → Octets s → sifted (λ x. address.spanned (span_of w (form x))) (dec s) ≡ part r rest → (s ≡ address_octets w r ++ rest) × Fits w r
  unfolding address_octets
  seen_wrote s r rest b h =
      let (x, e, q) = sifted_from (λ x. address.spanned (span_of w (form x))) (dec s) r rest h in
      let (i, p) = laws.wrote s x rest b e in
      let (f, l, t) = span_form w (form x) r.0 r.1 p (span_was (span_of w (form x)) r q) in
      (i ∙ rw f, record { order = l; fits = t })

module _ (w : ℕ) (m : w % 8 ≡ 0) where
  -- the contents of a BIT STRING
  bits_inner : Inner (λ c. address.bits_contents (read_bits w c)) (λ b. bits_of w b.0 b.1) (λ b. Begins w b.0 b.1)
  bits_inner = record {
    reads = λ b o z. rw (bits_read w b.0 b.1 m o);
    wrote = λ c b k h. bits_of_lem w b.0 b.1 c m k (bits_was (read_bits w c) b h);
  }

  -- a BIT STRING
  bits_laws : Outer (address.bits_at w) (λ b. form_octets w (address.as_prefix b)) (λ b. Parts w (address.as_prefix b))
  unfolding address.bits_at
  bits_laws = tagged_laws (at 0) BIT_STRING (λ k. bits_inner)

  -- two of them
  bounds_laws : Outer (address.range_at w) (λ r. form_octets w (address.as_range r)) (λ r. Parts w (address.as_range r))
  unfolding address.range_at address.bounds_of
  bounds_laws = tagged_laws (at 0) SEQUENCE (λ k. moved_inner k (only_laws (λ j. at j refusal.OctetsLeft) (two_laws bits_laws (λ j b o. moved_outer j bits_laws))))

  -- a form that was written is read
  pub form_reads : (f : Form) (r : ℕ × ℕ) (rest : List ℕ) → span_of w f ≡ span r.0 r.1 → Parts w f → Sized (form_octets w f) → address.address_at w (form_octets w f ++ rest) ≡ part r rest
  unfolding address.address_at address.prefix_at address.range_row_at
  form_reads (prefix n x) r rest e p z = rw (tag_first BIT_STRING (bits_of w n x) rest) (seen_reads w address.as_prefix bits_laws (n, x) r rest e p z)
  form_reads (range n x k y) r rest e p z =
      rw (tag_first SEQUENCE (element BIT_STRING (bits_of w n x) ++ element BIT_STRING (bits_of w k y)) rest) (seen_reads w address.as_range bounds_laws ((n, x), (k, y)) r rest e p z)

  -- what was read was written
  address_wrote : (s : List ℕ) (r : ℕ × ℕ) (rest : List ℕ) → Octets s → address.address_at w s ≡ part r rest → (s ≡ address_octets w r ++ rest) × Fits w r
  unfolding address.address_at address.prefix_at address.range_row_at
  address_wrote s r rest b h = go (eqb (get_or s 0 0) BIT_STRING) h
    where
      go : (t : Bool) → pick t (address.prefix_at w s) (address.range_row_at w s) ≡ part r rest → (s ≡ address_octets w r ++ rest) × Fits w r
      go true h = seen_wrote w address.as_prefix bits_laws s r rest b h
      go false h = seen_wrote w address.as_range bounds_laws s r rest b h

-- AN ADDRESS PREFIX OR RANGE, BOTH WAYS
pub address_laws : (w : ℕ) → w % 8 ≡ 0 → Outer (address.address_at w) (address_octets w) (Fits w)
unfolding address_octets
address_laws w m = record {
  reads = λ r rest o z. form_reads w m (form_of w r.0 r.1) r rest (form_span w r.0 r.1 o.order o.fits) (form_parts w r.0 r.1 o.order o.fits) z;
  wrote = address_wrote w m;
}

-- a number that was read
integer_was : (o : Result ℕ BadInteger) (x : ℕ) → id.integer_contents o ≡ is x → o ≡ Ok x
integer_was (Ok y) x h = cc
integer_was (Err cause) x h = absurd (no_is h)

-- a number of an INTEGER
abbrev Small : ℕ → Type 0
Small x = x ≤ 4294967295

-- an INTEGER
pub integer_laws : Outer id.integer_at (λ x. element INTEGER (integer_octets x)) Small
unfolding id.integer_at
integer_laws = tagged_laws (at 0) INTEGER (λ k. record {
  reads = λ x o z. rw (integer_read x o);
  wrote = λ c x b h. read_integer c x b (integer_was (integer_of c) x h);
})

-- a SEQUENCE of two of them
abbrev pair_octets : ℕ × ℕ → List ℕ
pair_octets r = element SEQUENCE (element INTEGER (integer_octets r.0) ++ element INTEGER (integer_octets r.1))

-- both ways
pub pair_laws : Outer id.pair_at pair_octets (λ r. Small r.0 × Small r.1)
unfolding id.pair_at id.pair_of
pair_laws = tagged_laws (at 0) SEQUENCE (λ k. moved_inner k (only_laws (λ j. at j refusal.OctetsLeft) (two_laws integer_laws (λ j x o. moved_outer j integer_laws))))

-- what was written is read
id_reads : (r : ℕ × ℕ) (rest : List ℕ) → Fits 32 r → Sized (id_octets r) → id.id_at (id_octets r ++ rest) ≡ part r rest
unfolding id.id_at id.number_at id.range_at id_octets
id_reads r rest o z = go (eqb r.0 r.1) refl z
  where
    go : (t : Bool) → eqb r.0 r.1 ≡ t → Sized (pick t (element INTEGER (integer_octets r.0)) (pair_octets r))
        → id.id_at (pick t (element INTEGER (integer_octets r.0)) (pair_octets r) ++ rest) ≡ part r rest
    go true e z =
        rw (tag_first INTEGER (integer_octets r.0) rest, integer_laws.reads r.0 rest (omega (arith, o.order, o.fits)) z)
        (ap (λ (y : ℕ). part (r.0, y) rest) (eqb-true r.0 r.1 e))
    go false e z =
        let l : r.0 < r.1 = omega (arith, o.order, eqb-false r.0 r.1 e) in
        rw (tag_first SEQUENCE (element INTEGER (integer_octets r.0) ++ element INTEGER (integer_octets r.1)) rest, pair_laws.reads r rest (omega (arith, o.fits)) z, lt-ltb r.0 r.1 l)

-- what was read was written
id_wrote : (s : List ℕ) (r : ℕ × ℕ) (rest : List ℕ) → Octets s → id.id_at s ≡ part r rest → (s ≡ id_octets r ++ rest) × Fits 32 r
unfolding id.id_at id.number_at id.range_at id_octets
id_wrote s r rest b h = go (eqb (get_or s 0 0) INTEGER) h
  where
    go : (t : Bool) → pick t (id.number_at s) (id.range_at s) ≡ part r rest → (s ≡ id_octets r ++ rest) × Fits 32 r
    go true h =
        let (x, e, q) = map_was (λ x. (x, x)) (id.integer_at s) r rest h in
        let (i, j) = integer_laws.wrote s x rest b e in
        rw (q, eq-eqb x x refl) (i, record { order = omega arith; fits = omega arith })
    go false h =
        let (x, e, q) = sifted_from id.apart (id.pair_at s) r rest h in
        let (i, j) = pair_laws.wrote s x rest b e in
        let k = pick_is (ltb x.0 x.1) (is r) (is x) (isnt (at 0 refusal.RangeForm)) no_is q in
        let g = k.1 in
        let f : x ≡ r = cc in
        let l = ltb-true x.0 x.1 k.0 in
        let n : x.0 ≡ x.1 → ⊥ = omega arith in
        rw (← f, ne_eqb x.0 x.1 n) (i, record { order = omega arith; fits = omega (arith, j.1) })

-- A NUMBER OR A RANGE OF NUMBERS, BOTH WAYS
pub id_laws : Outer id.id_at id_octets (Fits 32)
id_laws = record { reads = id_reads; wrote = id_wrote }

-- AN ELEMENT OF A LIST, BOTH WAYS
pub element_laws : (a : Space) → Outer (element_at a) (element_octets a) (Fits (bits_in a))
element_laws (space.Addresses a) = address_laws (bits (width_of a)) (width_octets (width_of a)).0
element_laws space.AsNumbers = id_laws
element_laws space.RoutingDomains = id_laws

-- an element has octets, whatever its tag and its contents are
some : (t : ℕ) (c : List ℕ) → 0 < length (element t c)
some t c = omega (arith, element_longer t c)

-- so has a form of addresses
form_some : (w : ℕ) (f : Form) → 0 < length (form_octets w f)
form_some w (prefix n x) = some BIT_STRING (bits_of w n x)
form_some w (range n x m y) = some SEQUENCE (element BIT_STRING (bits_of w n x) ++ element BIT_STRING (bits_of w m y))

-- one of numbers
id_some : (r : ℕ × ℕ) → 0 < length (id_octets r)
unfolding id_octets
id_some r = go (eqb r.0 r.1)
  where
    go : (t : Bool) → 0 < length (pick t (element INTEGER (integer_octets r.0)) (pair_octets r))
    go true = some INTEGER (integer_octets r.0)
    go false = some SEQUENCE (element INTEGER (integer_octets r.0) ++ element INTEGER (integer_octets r.1))

-- AN ELEMENT OF A LIST HAS OCTETS
pub element_some : (a : Space) (r : ℕ × ℕ) → 0 < length (element_octets a r)
element_some (space.Addresses a) r = unfold address_octets in form_some (bits (width_of a)) (form_of (bits (width_of a)) r.0 r.1)
element_some space.AsNumbers r = id_some r
element_some space.RoutingDomains r = id_some r

-- A STEP OF A LIST, BOTH WAYS
pub step_laws : (a : Space) → Laws (element_step a) (element_octets a) (Admits (element_octets a) (λ σ. Fits (bits_in a)) admit_row)
unfolding element_step
step_laws a = admitted_laws admit_row (λ σ. moved_outer σ.0 (element_laws a)) (element_some a)

-- few octets have a head of two
pub short : (t : ℕ) (c : List ℕ) → length c < 128 → length (element t c) ≡ length c + 2
short t c h = omega (arith, whole_size t c, head_two (length c) h)

-- at most 17 octets
module _ (t : ℕ) where
  -- in an element
  short_one : (c : List ℕ) → length c ≤ 17 → length (element t c) ≤ 19
  short_one c h = omega (arith, short t c (omega arith))

  -- in a SEQUENCE of two
  short_two : (c d : List ℕ) → length c ≤ 17 → length d ≤ 17 → length (element SEQUENCE (element t c ++ element t d)) ≤ 40
  short_two c d h k =
      let e = length-append (element t c) (element t d) in
      let i = short_one c h in
      let j = short_one d k in
      omega (arith, short SEQUENCE (element t c ++ element t d) (omega arith))

-- bits of an address
bits_few : (w n x : ℕ) → w ≤ 128 → Begins w n x → length (bits_of w n x) ≤ 17
unfolding bits_size
bits_few w n x h b = omega (arith, b.fits, bits_size_lem w n x)

-- a form of addresses
pub form_size : (w : ℕ) (f : Form) → w ≤ 128 → Parts w f → length (form_octets w f) ≤ 40
form_size w (prefix n x) h p = omega (arith, short_one BIT_STRING (bits_of w n x) (bits_few w n x h p))
form_size w (range n x m y) h p = short_two BIT_STRING (bits_of w n x) (bits_of w m y) (bits_few w n x h p.0) (bits_few w m y h p.1)

-- a number
integer_few : (x : ℕ) → length (integer_octets x) ≤ 17
integer_few x = omega (arith, integer_size_lem x, integer_most x)

-- an INTEGER, and a SEQUENCE of two of them
pub number_size : (x : ℕ) → length (element INTEGER (integer_octets x)) ≤ 19
number_size x = short_one INTEGER (integer_octets x) (integer_few x)

pub pair_size : (r : ℕ × ℕ) → length (pair_octets r) ≤ 40
pair_size r = short_two INTEGER (integer_octets r.0) (integer_octets r.1) (integer_few r.0) (integer_few r.1)

-- one or the other
id_size : (r : ℕ × ℕ) → length (id_octets r) ≤ 40
unfolding id_octets
id_size r = go (eqb r.0 r.1)
  where
    go : (t : Bool) → length (pick t (element INTEGER (integer_octets r.0)) (pair_octets r)) ≤ 40
    go true = omega (arith, number_size r.0)
    go false = pair_size r

-- AN ELEMENT OF A LIST TAKES AT MOST 40 OCTETS
pub element_size_lem : (a : Space) (r : ℕ × ℕ) → Fits (bits_in a) r → length (element_octets a r) ≤ 40
unfolding address_octets
element_size_lem (space.Addresses a) r o = form_size (bits (width_of a)) (form_of (bits (width_of a)) r.0 r.1) (width_octets (width_of a)).1 (form_parts (bits (width_of a)) r.0 r.1 o.order o.fits)
element_size_lem space.AsNumbers r o = id_size r
element_size_lem space.RoutingDomains r o = id_size r
