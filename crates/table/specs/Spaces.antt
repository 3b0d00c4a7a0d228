-- The spaces, their kinds and the widths of their numbers. "Space is AFI × 1024, plus 1 + SAFI if a SAFI is present; AS numbers are 4096, routing domain identifiers 5120."
use Rattle.std.specs.Prelude.{ℕ, Bool, false, leb, eqb, Option, Some, None, Result, Ok, Err, List, [], ◌∷◌}
use Rattle.number.specs.Refusal.{number_of}
use Rattle.number.specs.declared.refusal.Refusal.TheVariants as refusal
use Rattle.number.specs.Tests.{pick}
use Rattle.number.specs.declared.halves.Width.{Width}
use Rattle.number.specs.declared.halves.Width.TheVariants.{Bits32, Bits128}
use Rattle.table.specs.declared.kinds.Kind.{Kind}
use Rattle.table.specs.declared.kinds.Kind.TheVariants.{Ip, As}
use Rattle.table.specs.declared.kinds.UnknownKind.{UnknownKind}

-- the kinds of a table; a mixed one may have rows of both
abbrev pub mixed_kind : ℕ
mixed_kind = 0

abbrev pub ip_kind : ℕ
ip_kind = 1

abbrev pub as_kind : ℕ
as_kind = 2

-- "AS numbers are 4096, routing domain identifiers 5120"
abbrev pub as_numbers : ℕ
as_numbers = 4096

abbrev pub routing_domains : ℕ
routing_domains = 5120

-- from the first space of a family to its last
unfoldable pub between : ℕ → ℕ → ℕ → Bool
between first last s = pick (leb first s) (leb s last) false

-- "The spaces are 1024 to 1280, 2048 to 2304, 4096 and 5120.": the kind of each, or 0 where there is no such space
unfoldable pub kind_of : ℕ → ℕ
kind_of s =
    pick (between 1024 1280 s) ip_kind
    (pick (between 2048 2304 s) ip_kind
    (pick (eqb s as_numbers) as_kind
    (pick (eqb s routing_domains) as_kind 0)))

-- the number of a kind, as the writer takes it
abbrev pub kind_number : Kind → ℕ
kind_number Ip = ip_kind
kind_number As = as_kind

-- the number of a space's kind, 0 where there is none
abbrev pub kind_paper : Option Kind → ℕ
kind_paper None = 0
kind_paper (Some kind) = kind_number kind

-- the kind that a number is told as
abbrev pub kind_told : ℕ → Result Kind UnknownKind
kind_told n = pick (eqb n ip_kind) (Ok Ip) (pick (eqb n as_kind) (Ok As) (Err (record { 0 = n })))

-- the same in this paper's numbers: the kind's; or 19, and the number that is no kind's
abbrev pub kind_told_paper : Result Kind UnknownKind → List ℕ
kind_told_paper (Ok kind) = 0 ∷ kind_number kind ∷ []
kind_told_paper (Err other) = number_of refusal.NotATable ∷ other.0 ∷ []

-- the width follows the AFI; AS numbers and routing domain identifiers have 32 bits
unfoldable pub width_of : ℕ → Width
width_of s = pick (between 2048 2304 s) Bits128 Bits32
