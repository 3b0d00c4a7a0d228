-- The one encoding of a table, in the structure of RFC 3779: IPAddrBlocks, IPAddressFamily, IPAddressOrRange; ASIdentifiers, ASIdOrRange.
use Rattle.std.specs.Prelude.{ℕ, ◌+◌, ◌-◌, ◌/◌, ◌%◌, List, [], ◌∷◌, ◌++◌, eqb, length}
use Rattle.number.specs.Tests.{pick}
use Rattle.number.specs.Halves.{bits}
use Rattle.table.specs.Spaces.{ip_kind, width_of}
use Rattle.table.specs.Rows.{Row}
use Rattle.der.specs.Tags.{INTEGER, BIT_STRING, OCTET_STRING, NULL, SEQUENCE}
use Rattle.der.specs.Head.{element, head_octets}
use Rattle.der.specs.Bits.{bits_of}
use Rattle.der.specs.Integer.{integer_octets}
use Rattle.der.specs.Walk.{all}
use Rattle.values.specs.Limits.{ASNUM, RDI, as_numbers}
use Rattle.values.specs.Forms.{Form, prefix, range, form_of}
use Rattle.values.specs.Choices.{Choice, inherit, listed}
use Rattle.values.specs.declared.elements.Space.{Space}
use Rattle.values.specs.declared.elements.Space.TheVariants as space

-- IPAddressOrRange: "a BIT STRING (prefix) or a SEQUENCE of two (range)"
abbrev pub form_octets : ℕ → Form → List ℕ
form_octets w (prefix n x) = element BIT_STRING (bits_of w n x)
form_octets w (range n x m y) = element SEQUENCE (element BIT_STRING (bits_of w n x) ++ element BIT_STRING (bits_of w m y))

unfoldable pub address_octets : ℕ → ℕ × ℕ → List ℕ
address_octets w r = form_octets w (form_of w r.0 r.1)

-- ASIdOrRange: "INTEGER or range (min, max)"
unfoldable pub id_octets : ℕ × ℕ → List ℕ
id_octets r =
    pick (eqb r.0 r.1) (element INTEGER (integer_octets r.0))
    (element SEQUENCE (element INTEGER (integer_octets r.0) ++ element INTEGER (integer_octets r.1)))

-- low and high in a list
abbrev pub element_octets : Space → ℕ × ℕ → List ℕ
element_octets (space.Addresses a) = address_octets (bits (width_of a))
element_octets space.AsNumbers = id_octets
element_octets space.RoutingDomains = id_octets

-- "NULL (inherit) or a SEQUENCE of at least one element"
abbrev pub choice_octets : Space → Choice → List ℕ
choice_octets a inherit = element NULL []
choice_octets a (listed rs) = element SEQUENCE (all (element_octets a) rs)

-- addressFamily: AFI, then a SAFI if there is one
unfoldable pub space_octets : ℕ → List ℕ
space_octets a = 0 ∷ a / 1024 ∷ pick (eqb (a % 1024) 0) [] ((a % 1024 - 1) ∷ [])

-- IPAddressFamily
unfoldable pub family_octets : ℕ × Choice → List ℕ
family_octets f = element SEQUENCE (element OCTET_STRING (space_octets f.0) ++ choice_octets (space.Addresses f.0) f.1)

-- asnum [0], or rdi [1]
unfoldable pub member_octets : ℕ × Choice → List ℕ
member_octets f =
    pick (eqb f.0 as_numbers) (element ASNUM (choice_octets space.AsNumbers f.1))
    (element RDI (choice_octets space.RoutingDomains f.1))

-- a row before families: it joins the first, if that lists rows of its space
abbrev pub joined : ℕ → ℕ × ℕ → ℕ → Choice → List (ℕ × Choice) → List (ℕ × Choice)
joined a x b inherit fs = (a, listed (x ∷ [])) ∷ (b, inherit) ∷ fs
joined a x b (listed rs) fs = pick (eqb a b) ((a, listed (x ∷ rs)) ∷ fs) ((a, listed (x ∷ [])) ∷ (b, listed rs) ∷ fs)

abbrev pub before : ℕ → ℕ × ℕ → List (ℕ × Choice) → List (ℕ × Choice)
before a x [] = (a, listed (x ∷ [])) ∷ []
before a x (f ∷ fs) = joined a x f.0 f.1 fs

-- the rows of a table by their spaces, in order
abbrev pub grouped : List Row → List (ℕ × Choice)
grouped [] = []
grouped (r ∷ rs) = pick (eqb r.inherit 1) ((r.space, inherit) ∷ grouped rs) (before r.space (r.low, r.high) (grouped rs))

-- the value of a table of the kind
unfoldable pub encode : ℕ → List Row → List ℕ
encode kind rows = element SEQUENCE (pick (eqb kind ip_kind) (all family_octets (grouped rows)) (all member_octets (grouped rows)))

-- THE SAME BY THE KIND, for the writer

-- the list of a space in a table of the kind
abbrev pub space_for : ℕ → ℕ → Space
space_for kind a = pick (eqb kind ip_kind) (space.Addresses a) (pick (eqb a as_numbers) space.AsNumbers space.RoutingDomains)

unfoldable pub row_octets : ℕ → Row → List ℕ
row_octets kind r = element_octets (space_for kind r.space) (r.low, r.high)

-- a family, or a member
unfoldable pub group_octets : ℕ → ℕ × Choice → List ℕ
group_octets kind f = pick (eqb kind ip_kind) (family_octets f) (member_octets f)

-- what stands in it before its choice of n octets
unfoldable pub group_heads : ℕ → ℕ → ℕ → List ℕ
group_heads kind a n =
    pick (eqb kind ip_kind)
    (head_octets SEQUENCE (length (element OCTET_STRING (space_octets a)) + n) ++ element OCTET_STRING (space_octets a))
    (head_octets (pick (eqb a as_numbers) ASNUM RDI) n)
