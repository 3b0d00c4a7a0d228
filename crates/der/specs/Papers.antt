-- The answers of the DER parts in this paper's numbers: the number of the refusal, 0 if there is none, and the values of the case. (proofs/laws/Papers: they tell the cases apart.)
use Rattle.std.specs.Prelude.{ℕ, List, [], ◌∷◌}
use Rattle.number.specs.Refusal.{number_of}
use Rattle.number.specs.declared.refusal.Refusal.TheVariants as refusal
use Rattle.der.specs.declared.integers.BadInteger.{BadInteger}
use Rattle.der.specs.declared.integers.BadInteger.TheVariants as integer
use Rattle.std.specs.Prelude.{Option, Some, None, Result, Ok, Err}
use Rattle.number.specs.Halves.{bits}
use Rattle.der.specs.declared.bits.BitString.{BitString}
use Rattle.der.specs.Opening.{Opening}

-- an element: where its contents start and end; or 2 or 3
abbrev pub opening_paper : Opening → List ℕ
opening_paper (Ok (start, end)) = 0 ∷ start ∷ end ∷ []
opening_paper (Err r) = number_of r ∷ 0 ∷ 0 ∷ []

-- an INTEGER: the number; or 4, and which rule it breaks
abbrev pub integer_paper : Result ℕ BadInteger → List ℕ
integer_paper (Ok x) = 0 ∷ x ∷ []
integer_paper (Err integer.Empty) = number_of refusal.Contents ∷ 1 ∷ []
integer_paper (Err integer.Negative) = number_of refusal.Contents ∷ 2 ∷ []
integer_paper (Err integer.Padded) = number_of refusal.Contents ∷ 3 ∷ []
integer_paper (Err integer.TooLarge) = number_of refusal.Contents ∷ 4 ∷ []

-- a BIT STRING: how many bits, and the address that they begin, its width and its sixteen octets; or 4
abbrev pub bit_string_paper : Option BitString → List ℕ
bit_string_paper (Some string) = 0 ∷ string.count ∷ bits string.address.width ∷ string.address.octets
bit_string_paper None = number_of refusal.Contents ∷ []
