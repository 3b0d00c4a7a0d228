-- A brief element: one of few octets, read as one number. What the code says of it holds whatever follows the octets that it took.
use Rattle.std.specs.Prelude.{Option, Some, None, ℕ, ◌+◌, ◌-◌, ◌*◌, ◌/◌, ◌%◌, ◌^◌, ◌≤◌, ◌<◌, ◌≡◌, List, Bool, false, length, get_or, take, drop, ltb, leb, eqb}
use Rattle.number.specs.Tests.{pick}
use Rattle.number.specs.Halves.{whole}
use Rattle.der.specs.Tags.{INTEGER, BIT_STRING}
use Rattle.der.specs.Head.{element}
use Rattle.der.specs.Bits.{bits_of}
use Rattle.der.specs.Integer.{integer_octets}
use Rattle.der.specs.Parts.{part}
use Rattle.values.specs.Addresses.{address_at}
use Rattle.values.specs.Ids.{pair_at}
use Rattle.values.specs.declared.brief_addresses.Brief as b
use Rattle.values.specs.declared.brief_addresses.Span as r

-- a tag, a length from least to most in one octet, and eight octets after the first of the contents
unfoldable pub is_brief : ℕ → ℕ → ℕ → List ℕ → Bool
is_brief tag least most s =
    pick (ltb (length s) 11) false
    (pick (eqb (get_or s 0 0) tag)
    (pick (ltb (get_or s 1 0) least) false
    (leb (get_or s 1 0) most))
    false)

-- the octets that were taken, the first of s, are c
abbrev pub Starts : List ℕ → ℕ → List ℕ → Type 0
Starts s taken c = (taken ≤ length s) × (take taken s ≡ c)

-- none of these 64 bits is past the first w
abbrev pub Within : ℕ → ℕ → Type 0
Within w bits = bits * 2 ^ w % 2 ^ 64 ≡ 0

-- the address of w bits that begins with these 64, or with the first w of them
abbrev pub placed_bits : ℕ → ℕ → ℕ
placed_bits w bits = bits * 2 ^ w / 2 ^ 64

-- of 64 bits only the first `count`, and at least one is there, can be ones
abbrev pub Leading : ℕ → ℕ → Type 0
Leading count bits = (0 < count) × (count ≤ 64) × (bits < 2 ^ 64) × (bits % 2 ^ (64 - count) ≡ 0)

-- with ones after them
abbrev pub filled_bits : ℕ → ℕ → ℕ
filled_bits count bits = bits + (2 ^ (64 - count) - 1)

-- a BIT STRING of so many bits that begin an address of w bits
abbrev pub BitsTaken : ℕ → List ℕ → b.Brief → ℕ → Type 0
BitsTaken w s b taken =
    (b.count ≤ w) × (placed_bits w b.bits < 2 ^ w) × (placed_bits w b.bits % 2 ^ (w - b.count) ≡ 0) × Starts s taken (element BIT_STRING (bits_of w b.count (placed_bits w b.bits))) × Leading b.count b.bits

-- such a one, whose bits fit; or nothing was taken
abbrev pub BriefBits : ℕ → List ℕ → Option (b.Brief × ℕ) → Type 0
BriefBits w s (Some (b, taken)) = Within w b.bits × (0 < taken) × BitsTaken w s b taken
BriefBits w s None = Unit {0}

-- min and max as the first n and m of 64 bits: nothing more can be removed from either, and the addresses are not as many as a prefix has
pub record IsRange (n min m max : ℕ) : Type 0 where
  pub one : min / 2 ^ (64 - n) % 2 ≡ 1
  pub zero : max / 2 ^ (64 - m) % 2 ≡ 0
  pub some : 0 < max
  pub order : min < filled_bits m max
  pub unlike : (k : ℕ) → filled_bits m max - min + 1 ≡ 2 ^ k → ⊥

-- an element of an address family of w bits by its low and high, or nothing was taken
abbrev pub BriefSpan : ℕ → List ℕ → Option (r.Span × ℕ) → Type 0
BriefSpan w s (Some (r, taken)) = (0 < taken) × (part (whole r.low, whole r.high) (drop taken s) ≡ address_at w s) × (taken ≤ length s)
BriefSpan w s None = Unit {0}

-- an INTEGER of 32 bits, or nothing was taken
abbrev pub BriefNumber : List ℕ → Option (ℕ × ℕ) → Type 0
BriefNumber s (Some (x, taken)) = (0 < taken) × (x ≤ 4294967295) × Starts s taken (element INTEGER (integer_octets x))
BriefNumber s None = Unit {0}

-- a range of two such, or nothing was taken
abbrev pub BriefPair : List ℕ → Option ((ℕ × ℕ) × ℕ) → Type 0
BriefPair s (Some (p, taken)) = (0 < taken) × (part p (drop taken s) ≡ pair_at s) × (taken ≤ length s)
BriefPair s None = Unit {0}
