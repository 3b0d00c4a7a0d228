-- The bundle of document 01: mark, version, count, then two values with their lengths for each certificate.
use Rattle.std.specs.Prelude.{ℕ, zero, suc, ◌+◌, ◌*◌, ◌/◌, ◌%◌, List, [], ◌∷◌, ◌++◌, Bool, false, length, get_or, take, drop, ltb, eqb, Ok, Err, Result, Some, None, Option}
use Rattle.number.specs.Tests.{pick}
use Rattle.number.specs.declared.refusal.Refusal.TheVariants as refusal
use Rattle.number.specs.declared.refusal.Refusal.{Refusal}

-- "bundle: 6 to 65,536 octets"; "certificates in a path: 1 to 8"
abbrev pub least_octets : ℕ
least_octets = 6

abbrev pub most_octets : ℕ
most_octets = 65536

abbrev pub most_certificates : ℕ
most_certificates = 8

-- the octets before the first certificate: mark, version and count
abbrev pub bundle_head : ℕ
bundle_head = 6

-- "16-bit length .. High octet first": of the value that s begins with
abbrev pub length_of : List ℕ → ℕ
length_of s = get_or s 0 0 * 256 + get_or s 1 0

-- the same as the code says it
unfoldable pub length_in : List ℕ → ℕ
length_in s = pick (ltb (length s) 2) 0 (length_of s)

-- where that value ends, if it is not "cut short"
unfoldable pub end_of : List ℕ → Option ℕ
end_of s = pick (ltb (length s) 2) None (pick (ltb (length s) (2 + length_of s)) None (Some (2 + length_of s)))

abbrev pub on_after : Option ℕ → (ℕ → Bool) → Bool
on_after None go = false
on_after (Some e) go = go e

-- so many values, and no "octets over"
unfoldable pub is_values : ℕ → List ℕ → Bool
is_values zero s = eqb (length s) 0
is_values (suc k) s = on_after (end_of s) (λ e. is_values k (drop e s))

-- "`RCH` in ASCII, 16-bit version 0001"
unfoldable pub is_marked : List ℕ → Bool
is_marked b =
    pick (ltb (length b) 5) false
    (pick (eqb (get_or b 0 0) 0x52)
    (pick (eqb (get_or b 1 0) 0x43)
    (pick (eqb (get_or b 2 0) 0x48)
    (pick (eqb (get_or b 3 0) 0)
    (eqb (get_or b 4 0) 1) false) false) false) false)

-- "Path order: .. length 18, 17, 12, framing 18"
unfoldable pub frame_of : List ℕ → Result ℕ Refusal
frame_of b =
    pick (ltb (length b) least_octets) (Err refusal.Framing)
    (pick (ltb most_octets (length b)) (Err refusal.Framing)
    (pick (is_marked b)
    (pick (eqb (get_or b 5 0) 0) (Err refusal.CertificateCount)
    (pick (ltb most_certificates (get_or b 5 0)) (Err refusal.CertificateCount)
    (pick (is_values (2 * get_or b 5 0) (drop bundle_head b)) (Ok (get_or b 5 0)) (Err refusal.Framing))))
    (Err refusal.Mark)))

-- the value that s begins with, and what comes after it
abbrev pub value_in : List ℕ → List ℕ
value_in s = take (length_of s) (drop 2 s)

abbrev pub after_value : List ℕ → List ℕ
after_value s = drop (2 + length_of s) s

-- "for each certificate from the anchor down: 16-bit length, IPAddrBlocks, 16-bit length, ASIdentifiers": the two values of each
abbrev pub certificates_in : ℕ → List ℕ → List (List ℕ × List ℕ)
certificates_in zero s = []
certificates_in (suc k) s = (value_in s, value_in (after_value s)) ∷ certificates_in k (after_value (after_value s))

-- how a certificate is written down: its IP value and its AS value, empty where absent
abbrev pub value_octets : List ℕ → List ℕ
value_octets v = length v / 256 ∷ length v % 256 ∷ v

abbrev pub certificate_octets : List ℕ × List ℕ → List ℕ
certificate_octets c = value_octets c.0 ++ value_octets c.1

abbrev pub certificates_octets : List (List ℕ × List ℕ) → List ℕ
certificates_octets [] = []
certificates_octets (c ∷ cs) = certificate_octets c ++ certificates_octets cs

unfoldable pub bundle_of : List (List ℕ × List ℕ) → List ℕ
bundle_of cs = 0x52 ∷ 0x43 ∷ 0x48 ∷ 0 ∷ 1 ∷ length cs ∷ certificates_octets cs
