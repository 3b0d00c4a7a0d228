-- The answers of the code, in the words of the definitions (`..Seen`): a part's rest is what follows the octets that it took. Its end, or the place of its refusal, is within the octets given (`..In`).
use Rattle.std.specs.Prelude.{Result, Ok, Err, Option, Some, None, ℕ, ◌^◌, ◌≤◌, ◌<◌, ◌≡◌, List, drop, ltb}
use Rattle.number.specs.Tests.{pick}
use Rattle.number.specs.Halves.{whole}
use Rattle.number.specs.declared.halves.Halves as number
use Rattle.number.specs.declared.refusal.Refusal.{Refusal}
use Rattle.der.specs.Parts.{Contents, is, isnt, Part, part, nopart}
use Rattle.table.specs.Rows.{in_halves}
use Rattle.table.specs.declared.rows.Row as code
use Rattle.values.specs.Faults.{Fault, at, Read, Taken}
use Rattle.values.specs.Forms.{Span, span, none}
use Rattle.values.specs.Choices.{listed_row}
use Rattle.values.specs.declared.addresses.Start as begun

-- so many bits, and the address that they begin
abbrev pub start : ℕ → number.Halves → begun.Start
start n x = record { bits = n; address = x }

-- the end of an element, within n octets
abbrev pub Reached : ℕ → ℕ → Type 0
Reached n end = (0 < end) × (end ≤ n)

-- the end of a part, or the place of its refusal, is within n octets
abbrev pub Within : {X : Type 0} → ℕ → Taken X → Type 0
Within n (Ok (x, end)) = Reached n end
Within n (Err f) = f.place ≤ n

-- the place of a refusal of contents is
abbrev pub PlaceWithin : {X : Type 0} → ℕ → Read X → Type 0
PlaceWithin n (Ok x) = Unit {0}
PlaceWithin n (Err f) = f.place ≤ n

-- a part, and contents, whose value is seen as `see` has it
abbrev pub taken_seen : {X Y : Type 0} → (X → Y) → List ℕ → Taken X → Part Y Fault
taken_seen see s (Ok (x, end)) = part (see x) (drop end s)
taken_seen see s (Err f) = nopart f

abbrev pub read_seen : {X Y : Type 0} → (X → Y) → Read X → Contents Y Fault
read_seen see (Ok x) = is (see x)
read_seen see (Err f) = isnt f

-- how many bits, and the number of the address
abbrev pub start_seen : begun.Start → ℕ × ℕ
start_seen b = (b.bits, whole b.address)

-- one and another
abbrev pub both_seen : {X Y : Type 0} → (X → Y) → X × X → Y × Y
both_seen see p = (see p.0, see p.1)

abbrev pub bits_seen : List ℕ → Taken begun.Start → Part (ℕ × ℕ) Fault
bits_seen = taken_seen start_seen

-- and the address has w bits
abbrev pub BitsIn : ℕ → ℕ → Taken begun.Start → Type 0
BitsIn w m (Ok (b, end)) = (whole b.address < 2 ^ w) × Reached m end
BitsIn w m (Err f) = f.place ≤ m

abbrev pub bounds_at_seen : List ℕ → Taken (begun.Start × begun.Start) → Part ((ℕ × ℕ) × (ℕ × ℕ)) Fault
bounds_at_seen = taken_seen (both_seen start_seen)

abbrev pub BoundsAtIn : ℕ → ℕ → Taken (begun.Start × begun.Start) → Type 0
BoundsAtIn w k (Ok ((b, c), end)) = (whole b.address < 2 ^ w) × (whole c.address < 2 ^ w) × Reached k end
BoundsAtIn w k (Err f) = f.place ≤ k

-- the row of a range in the space a
abbrev pub ranged_seen : ℕ → Span → Option code.Row
ranged_seen a (span low high) = Some (in_halves (listed_row a (low, high)))
ranged_seen a none = None

abbrev pub found_seen : List ℕ → Taken code.Row → Part (ℕ × ℕ) Fault
found_seen = taken_seen (λ row. (whole row.low, whole row.high))

-- and the row lists numbers of the space a
abbrev pub FoundIn : ℕ → ℕ → Taken code.Row → Type 0
FoundIn a m (Ok (row, end)) = (row.space ≡ a) × (row.inherit ≡ 0) × Reached m end
FoundIn a m (Err f) = f.place ≤ m

abbrev pub integer_seen : List ℕ → Taken ℕ → Part ℕ Fault
integer_seen = taken_seen (λ x. x)

abbrev pub IntegerIn : ℕ → Taken ℕ → Type 0
IntegerIn = Within

abbrev pub pair_at_seen : List ℕ → Taken (ℕ × ℕ) → Part (ℕ × ℕ) Fault
pair_at_seen = taken_seen (λ p. p)

abbrev pub PairAtIn : ℕ → Taken (ℕ × ℕ) → Type 0
PairAtIn = Within

-- the row of a range of identifiers in the space a
abbrev pub range_seen : ℕ → ℕ → ℕ → Option code.Row
range_seen a x y = pick (ltb x y) (Some (in_halves (listed_row a (x, y)))) None

abbrev pub space_of_seen : Result ℕ Refusal → Contents ℕ Fault
space_of_seen (Ok x) = is x
space_of_seen (Err r) = isnt (at 0 r)

abbrev pub space_seen : List ℕ → Taken ℕ → Part ℕ Fault
space_seen = taken_seen (λ x. x)

abbrev pub SpaceIn : ℕ → Taken ℕ → Type 0
SpaceIn m (Ok (x, end)) = (x ≤ 4095) × Reached m end
SpaceIn m (Err f) = f.place ≤ m
