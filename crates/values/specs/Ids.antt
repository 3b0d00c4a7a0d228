-- ASIdOrRange: "at least one INTEGER or range (min, max)". AS numbers and routing domain identifiers have one syntax; their types and spaces are their own.
use Rattle.std.specs.Prelude.{Result, Ok, Err, ℕ, List, get_or, ltb, eqb}
use Rattle.number.specs.Tests.{pick}
use Rattle.number.specs.declared.refusal.Refusal.TheVariants as refusal
use Rattle.der.specs.Tags.{INTEGER, SEQUENCE}
use Rattle.der.specs.Integer.{integer_of}
use Rattle.der.specs.declared.integers.BadInteger.{BadInteger}
use Rattle.der.specs.Parts.{Contents, is, isnt, Part, tagged, two, only, sifted}
use Rattle.values.specs.Faults.{Fault, at, moved, moved_part}

-- whatever the cause, an INTEGER that is none is refusal 4
abbrev pub integer_contents : Result ℕ BadInteger → Contents ℕ Fault
integer_contents (Ok x) = is x
integer_contents (Err cause) = isnt (at 0 refusal.Contents)

unfoldable pub integer_at : List ℕ → Part ℕ Fault
integer_at = tagged (at 0) INTEGER (λ k c. integer_contents (integer_of c))

-- the contents of a range: min, then max, then nothing
unfoldable pub pair_of : List ℕ → Contents (ℕ × ℕ) Fault
pair_of = only (λ j. at j refusal.OctetsLeft) (two integer_at (λ j min s. moved_part j (integer_at s)))

unfoldable pub pair_at : List ℕ → Part (ℕ × ℕ) Fault
pair_at = tagged (at 0) SEQUENCE (λ k c. moved k (pair_of c))

-- "A range has min below max."
abbrev pub apart : ℕ × ℕ → Contents (ℕ × ℕ) Fault
apart r = pick (ltb r.0 r.1) (is r) (isnt (at 0 refusal.RangeForm))

-- a number's low and high, and a range's
unfoldable pub number_at : List ℕ → Part (ℕ × ℕ) Fault
number_at s = sifted (λ x. is (x, x)) (integer_at s)

unfoldable pub range_at : List ℕ → Part (ℕ × ℕ) Fault
range_at s = sifted apart (pair_at s)

-- low and high of an element
unfoldable pub id_at : List ℕ → Part (ℕ × ℕ) Fault
id_at s = pick (eqb (get_or s 0 0) INTEGER) (number_at s) (range_at s)
