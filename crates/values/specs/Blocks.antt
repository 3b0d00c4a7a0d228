-- "IPAddrBlocks is a SEQUENCE of families; none at all (30 00) is accepted and holds nothing."
use Rattle.std.specs.Prelude.{ℕ, ◌+◌, ◌*◌, List, length, get_or, ltb}
use Rattle.number.specs.Tests.{pick}
use Rattle.number.specs.declared.refusal.Refusal.TheVariants as refusal
use Rattle.der.specs.Tags.{OCTET_STRING, SEQUENCE}
use Rattle.der.specs.Strings.{is_sized}
use Rattle.der.specs.Parts.{Contents, is, isnt, Part, tagged, two, only, sifted, admitted, list_of}
use Rattle.der.specs.Walk.{Step}
use Rattle.values.specs.Faults.{Fault, at, moved, moved_part}
use Rattle.values.specs.Elements.{Place}
use Rattle.values.specs.Choices.{Choice, choice_at, choice_rows}
use Rattle.values.specs.declared.elements.Space.TheVariants as space

-- the AFI of an addressFamily
abbrev pub afi : List ℕ → ℕ
afi c = get_or c 0 0 * 256 + get_or c 1 0

-- "OCTET STRING of 2 or 3 octets"; "AFI must be 0001 or 0002; any SAFI": "AFI × 1024, plus 1 + SAFI if a SAFI is present"
unfoldable pub space_of : List ℕ → Contents ℕ Fault
space_of c =
    pick (is_sized c 2 3)
    (pick (ltb (afi c) 1) (isnt (at 0 refusal.Afi))
    (pick (ltb 2 (afi c)) (isnt (at 0 refusal.Afi))
    (is (afi c * 1024 + pick (ltb (length c) 3) 0 (1 + get_or c 2 0)))))
    (isnt (at 0 refusal.Contents))

-- "family not above the one before"
abbrev pub not_below : ℕ → ℕ → Contents ℕ Fault
not_below least a = pick (ltb a least) (isnt (at 0 refusal.FamilyOrder)) (is a)

-- "Numbers 6 and 7 belong to the OCTET STRING and come before the family's second element is read."
unfoldable pub space_at : ℕ → List ℕ → Part ℕ Fault
space_at least s = sifted (not_below least) (tagged (at 0) OCTET_STRING (λ k. space_of) s)

-- the contents of a family: its space, its numbers, then nothing; n rows so far
unfoldable pub family_of : ℕ → ℕ → List ℕ → Contents (ℕ × Choice) Fault
family_of least n = only (λ j. at j refusal.OctetsLeft) (two (space_at least) (λ j a s. moved_part j (choice_at (space.Addresses a) n s)))

unfoldable pub family_at : ℕ → ℕ → List ℕ → Part (ℕ × Choice) Fault
family_at least n = tagged (at 0) SEQUENCE (λ k c. moved k (family_of least n c))

-- the state: the place, the least space that may come, and the rows so far
unfoldable pub admit_family : Place → ℕ × Choice → ℕ → Contents Place Fault
admit_family σ f k = is (σ.0 + k, f.0 + 1, σ.2 + length (choice_rows f.0 f.1))

unfoldable pub family_step : Place → List ℕ → Step (ℕ × Choice) Place Fault
family_step = admitted (λ σ s. moved_part σ.0 (family_at σ.1 σ.2 s)) admit_family

unfoldable pub families_of : List ℕ → Contents (List (ℕ × Choice)) Fault
families_of = list_of family_step (0, 0, 0)

-- octets after the outermost SEQUENCE come last of all
unfoldable pub read_blocks : List ℕ → Contents (List (ℕ × Choice)) Fault
read_blocks = only (λ j. at j refusal.OctetsLeft) (tagged (at 0) SEQUENCE (λ k c. moved k (families_of c)))
