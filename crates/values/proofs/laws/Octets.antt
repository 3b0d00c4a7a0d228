-- What is encoded are octets. Theorems. Assumes nothing.
--     element_octets_lem, bits_octets, integer_octets_lem      the parts of DER
--     row_octets_lem, choice_octets_lem, family_octets_lem, member_octets_lem, value_octets_lem      those of a value
use mathlib.Core.Path.{◌≡◌, refl}
use mathlib.Core.List.{List, [], ◌∷◌, ◌++◌}
use mathlib.Core.Bool.{Bool, true, false}
use mathlib.Core.Logic.{inl, inr}
use Prim.Native.Nat.{ℕ, zero, suc, ◌+◌, ◌-◌, ◌*◌, ◌/◌, ◌%◌, ◌^◌, ◌≤◌, ◌<◌}
use native.Mathlib.Nat.{lt_of_lt_of_le, mod-lt}
use native.Mathlib.Omega.{arith}
use lib.ListN.{length, length-append}
use lib.Dec.{ltb, eqb}
use lib.Pow.{pow_pos, pow_mono, shr_lt}
use borrow.Author.Tests.{ltb-true}
use Rattle.number.specs.Tests.{pick}
use Rattle.number.specs.Halves.{bits}
use Rattle.number.specs.Octets.{Octets, octets}
use Rattle.table.specs.Spaces.{ip_kind, as_kind, kind_of, width_of}
use Rattle.table.proofs.laws.Spaces.{IpSpace, kind_ip}
use Rattle.der.specs.Tags.{INTEGER, BIT_STRING, OCTET_STRING, NULL, SEQUENCE}
use Rattle.der.specs.Head.{length_octets, element}
use Rattle.der.specs.Bits.{bits_of}
use Rattle.der.specs.Integer.{integer_octets}
use Rattle.der.specs.Walk.{all}
use Rattle.der.proofs.Tails.{octets-append}
use Rattle.der.proofs.laws.Heads.{Sized, element_longer}
use Rattle.der.proofs.laws.Integers.{size_takes}
use Rattle.values.specs.Limits.{ASNUM, RDI, as_numbers}
use Rattle.values.specs.Forms.{Form, prefix, range, form_of}
use Rattle.values.specs.Choices.{Choice, inherit, listed}
use Rattle.values.specs.Encode.{form_octets, address_octets, id_octets, element_octets, choice_octets, space_octets, family_octets, member_octets}
use Rattle.values.specs.declared.elements.Space.{Space}
use Rattle.values.specs.declared.elements.Space.TheVariants as space
use Rattle.values.proofs.laws.Statements.{Fits, bits_in}
use Rattle.values.proofs.laws.Forms.{Parts, form_parts}
use Rattle.values.proofs.laws.Elements.{element_size_lem}
use Rattle.values.proofs.laws.Families.{Rising, Lists, Ordered}
use Rattle.values.proofs.laws.Identifiers.{as_width}

-- LISTS OF OCTETS

-- no octets
none : Octets []
unfolding Octets
none k = omega arith

-- one more octet
more : (x : ℕ) (s : List ℕ) → x < 256 → Octets s → Octets (x ∷ s)
unfolding Octets
more x s h b zero = h
more x s h b (suc k) = b k

-- k octets spell a number below 2 ^ (8 * k)
spelled : (k n : ℕ) → n < 2 ^ (8 * k) → Octets (octets k n)
spelled zero n h = none
spelled (suc k) n h =
    let e : 8 * suc k ≡ 8 + 8 * k = omega arith in
    more _ _ (shr_lt 8 (8 * k) (rw e at h)) (spelled k (n % 2 ^ (8 * k)) (mod-lt n (pow_pos (8 * k))))

-- THE PARTS OF DER

-- a length
length-octets : (n : ℕ) → n < 65536 → Octets (length_octets n)
unfolding length_octets
length-octets n h = go (ltb n 128) (ltb n 256) refl refl
  where
    go : (a b : Bool) → ltb n 128 ≡ a → ltb n 256 ≡ b → Octets (pick a (n ∷ []) (pick b (0x81 ∷ n ∷ []) (0x82 ∷ n / 256 ∷ n % 256 ∷ [])))
    go true b p q = more _ _ (omega (arith, ltb-true n 128 p)) none
    go false true p q = more _ _ (omega arith) (more _ _ (ltb-true n 256 q) none)
    go false false p q = more _ _ (omega arith) (more _ _ (omega arith) (more _ _ (omega arith) none))

-- an element whose contents are octets
element_octets_lem : (t : ℕ) (c : List ℕ) → t < 256 → Sized c → Octets c → Octets (element t c)
unfolding element
element_octets_lem t c h z b = more _ _ h (octets-append (length_octets (length c)) c (length-octets (length c) z) b)

-- the contents of a BIT STRING
bits_octets : (w n x : ℕ) → x < 2 ^ w → Octets (bits_of w n x)
unfolding bits_of
bits_octets w n x h =
    let k : ℕ = (n + 7) / 8 in
    more _ _ (omega arith) (spelled k (x / 2 ^ (w - 8 * k)) (shr_lt (8 * k) (w - 8 * k) (lt_of_lt_of_le h (pow_mono {i = w} {j = 8 * k + (w - 8 * k)} (omega arith)))))

-- the contents of an INTEGER
integer_octets_lem : (x : ℕ) → x < 2 ^ 32 → Octets (integer_octets x)
unfolding integer_octets
integer_octets_lem x h =
    let (m, e, f, k) = size_takes x (omega arith) in
    rw e (spelled (suc m) x (lt_of_lt_of_le k.above (pow_mono {i = 7 + 8 * m} {j = 8 * suc m} (omega arith))))

-- a SEQUENCE of two
pair_octets_lem : (t : ℕ) (c d : List ℕ) → t < 256 → Octets c → Octets d → Sized (element SEQUENCE (element t c ++ element t d)) → Octets (element SEQUENCE (element t c ++ element t d))
pair_octets_lem t c d h b e z =
    let l = element_longer SEQUENCE (element t c ++ element t d) in
    let m = length-append (element t c) (element t d) in
    let i = element_longer t c in
    let j = element_longer t d in
    element_octets_lem SEQUENCE (element t c ++ element t d) (omega arith) (omega arith) (octets-append (element t c) (element t d) (element_octets_lem t c h (omega arith) b) (element_octets_lem t d h (omega arith) e))

-- LOW AND HIGH

-- an address or a range of them
form_octets_lem : (w : ℕ) (f : Form) → Parts w f → Sized (form_octets w f) → Octets (form_octets w f)
form_octets_lem w (prefix n x) p z = element_octets_lem BIT_STRING (bits_of w n x) (omega arith) (omega (arith, element_longer BIT_STRING (bits_of w n x))) (bits_octets w n x p.below)
form_octets_lem w (range n x m y) p z = pair_octets_lem BIT_STRING (bits_of w n x) (bits_of w m y) (omega arith) (bits_octets w n x p.0.below) (bits_octets w m y p.1.below) z

-- a number or a range of them
id_octets_lem : (r : ℕ × ℕ) → Fits 32 r → Sized (id_octets r) → Octets (id_octets r)
unfolding id_octets
id_octets_lem r h z = go (eqb r.0 r.1) z
  where
    low : Octets (integer_octets r.0)
    low = integer_octets_lem r.0 (omega (arith, h.order, h.fits))

    go : (t : Bool) → Sized (pick t (element INTEGER (integer_octets r.0)) (element SEQUENCE (element INTEGER (integer_octets r.0) ++ element INTEGER (integer_octets r.1))))
        → Octets (pick t (element INTEGER (integer_octets r.0)) (element SEQUENCE (element INTEGER (integer_octets r.0) ++ element INTEGER (integer_octets r.1))))
    go true z = element_octets_lem INTEGER (integer_octets r.0) (omega arith) (omega (arith, element_longer INTEGER (integer_octets r.0))) low
    go false z = pair_octets_lem INTEGER (integer_octets r.0) (integer_octets r.1) (omega arith) low (integer_octets_lem r.1 h.fits) z

-- an element of any list
row_octets_lem : (a : Space) (r : ℕ × ℕ) → Fits (bits_in a) r → Octets (element_octets a r)
row_octets_lem a r h = go a h (element_size_lem a r h)
  where
    go : (a : Space) → Fits (bits_in a) r → length (element_octets a r) ≤ 40 → Octets (element_octets a r)
    go (space.Addresses s) h l = unfold address_octets in form_octets_lem (bits (width_of s)) (form_of (bits (width_of s)) r.0 r.1) (form_parts (bits (width_of s)) r.0 r.1 h.order h.fits) (omega arith)
    go space.AsNumbers h l = id_octets_lem r h (omega arith)
    go space.RoutingDomains h l = id_octets_lem r h (omega arith)

-- THE PARTS OF A VALUE

-- a list
rows_octets : (a : Space) (least : ℕ) (rs : List (ℕ × ℕ)) → Rising (bits_in a) least rs → Octets (all (element_octets a) rs)
rows_octets a least [] h = none
rows_octets a least (r ∷ rs) h = octets-append (element_octets a r) (all (element_octets a) rs) (row_octets_lem a r h.0) (rows_octets a (r.1 + 2) rs h.2)

-- inherit or a list
choice_octets_lem : (a : Space) (c : Choice) → Lists (bits_in a) c → Sized (choice_octets a c) → Octets (choice_octets a c)
choice_octets_lem a inherit o z = element_octets_lem NULL [] (omega arith) (omega arith) none
choice_octets_lem a (listed rs) o z = element_octets_lem SEQUENCE (all (element_octets a) rs) (omega arith) (omega (arith, element_longer SEQUENCE (all (element_octets a) rs))) (rows_octets a 0 rs o.1)

-- AFI and SAFI
space_octets_lem : (a : ℕ) → IpSpace a → Octets (space_octets a)
unfolding space_octets
space_octets_lem a h = more _ _ (omega arith) (more _ _ (afi h) (go (eqb (a % 1024) 0)))
  where
    afi : IpSpace a → a / 1024 < 256
    afi (inl h) = omega arith
    afi (inr h) = omega arith

    safi : IpSpace a → a % 1024 - 1 < 256
    safi (inl h) = omega arith
    safi (inr h) = omega arith

    go : (t : Bool) → Octets (pick t [] ((a % 1024 - 1) ∷ []))
    go true = none
    go false = more _ _ (safi h) none

-- a family
pub family_octets_lem : (f : ℕ × Choice) → kind_of f.0 ≡ ip_kind → Lists (bits (width_of f.0)) f.1 → Sized (family_octets f) → Octets (family_octets f)
unfolding family_octets
family_octets_lem f e h z =
    let c : List ℕ = element OCTET_STRING (space_octets f.0) in
    let d : List ℕ = choice_octets (space.Addresses f.0) f.1 in
    let l = element_longer SEQUENCE (element OCTET_STRING (space_octets f.0) ++ choice_octets (space.Addresses f.0) f.1) in
    let m = length-append (element OCTET_STRING (space_octets f.0)) (choice_octets (space.Addresses f.0) f.1) in
    let i = element_longer OCTET_STRING (space_octets f.0) in
    element_octets_lem SEQUENCE (c ++ d) (omega arith) (omega arith)
    (octets-append c d (element_octets_lem OCTET_STRING (space_octets f.0) (omega arith) (omega arith) (space_octets_lem f.0 ((kind_ip f.0).0 e))) (choice_octets_lem (space.Addresses f.0) f.1 h (omega arith)))

-- a member
pub member_octets_lem : (f : ℕ × Choice) → kind_of f.0 ≡ as_kind → Lists (bits (width_of f.0)) f.1 → Sized (member_octets f) → Octets (member_octets f)
unfolding member_octets
member_octets_lem f e h z = go (eqb f.0 as_numbers) (rw (as_width f.0 e) at h) z
  where
    one : (t : ℕ) (a : Space) → t < 256 → Lists (bits_in a) f.1 → Sized (element t (choice_octets a f.1)) → Octets (element t (choice_octets a f.1))
    one t a l h z = let m = element_longer t (choice_octets a f.1) in element_octets_lem t (choice_octets a f.1) l (omega arith) (choice_octets_lem a f.1 h (omega arith))

    go : (t : Bool) → Lists 32 f.1 → Sized (pick t (element ASNUM (choice_octets space.AsNumbers f.1)) (element RDI (choice_octets space.RoutingDomains f.1)))
        → Octets (pick t (element ASNUM (choice_octets space.AsNumbers f.1)) (element RDI (choice_octets space.RoutingDomains f.1)))
    go true h z = one ASNUM space.AsNumbers (omega arith) h z
    go false h z = one RDI space.RoutingDomains (omega arith) h z

-- THE VALUE, of families or of members
pub value_octets_lem : (kind : ℕ) (enc : ℕ × Choice → List ℕ)
    → ((f : ℕ × Choice) → kind_of f.0 ≡ kind → Lists (bits (width_of f.0)) f.1 → Sized (enc f) → Octets (enc f))
    → (fs : List (ℕ × Choice)) → Ordered kind 0 fs → Sized (element SEQUENCE (all enc fs)) → Octets (element SEQUENCE (all enc fs))
value_octets_lem kind enc each fs h z = let l = element_longer SEQUENCE (all enc fs) in element_octets_lem SEQUENCE (all enc fs) (omega arith) (omega arith) (go 0 fs h (omega arith))
  where
    go : (least : ℕ) (fs : List (ℕ × Choice)) → Ordered kind least fs → Sized (all enc fs) → Octets (all enc fs)
    go least [] h z = none
    go least (f ∷ fs) h z =
        let l = length-append (enc f) (all enc fs) in
        octets-append (enc f) (all enc fs) (each f h.0 h.2 (omega arith)) (go (f.0 + 1) fs h.3 (omega arith))
