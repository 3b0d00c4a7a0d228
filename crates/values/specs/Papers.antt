-- The answers of the readers and of their parts in this paper's numbers. (proofs/laws/Papers: they tell the cases apart.)
use Rattle.std.specs.Prelude.{Result, Ok, Err, Option, Some, None, ℕ, List, [], ◌∷◌}
use Rattle.number.specs.Refusal.{number_of}
use Rattle.number.specs.declared.refusal.Refusal.TheVariants as refusal
use Rattle.table.specs.Rows.{row_paper}
use Rattle.number.specs.declared.refusal.Refusal.{Refusal}
use Rattle.table.specs.declared.rows.Row as code
use Rattle.values.specs.Faults.{Read, Taken}
use Rattle.values.specs.Readings.{Reading}
use Rattle.values.specs.declared.addresses.Start as begun
use Rattle.values.specs.declared.brief_addresses.Brief.{Brief}
use Rattle.values.specs.declared.brief_addresses.Span.{Span}
use Rattle.values.specs.declared.readings.Refused.{Refused}

-- THE NINE NUMBERS OF A REPLY: number (0 if accepted), certificate, extension, place, space, value in halves, rows (the writer: octets), pairs

-- "A refusal names certificate, extension (0 none, 1 IP, 2 AS), place, space and value, and reports 0 rows."
abbrev pub refused : Refused → List ℕ
refused f = number_of f.refusal ∷ f.certificate ∷ f.extension ∷ f.place ∷ f.space ∷ f.value.upper ∷ f.value.lower ∷ 0 ∷ 0 ∷ []

-- "On acceptance certificate, extension and place are 0 everywhere."
abbrev pub accepted : ℕ → ℕ → List ℕ
accepted rows pairs = 0 ∷ 0 ∷ 0 ∷ 0 ∷ 0 ∷ 0 ∷ 0 ∷ rows ∷ pairs ∷ []

abbrev pub paper : Reading → List ℕ
paper (Ok n) = accepted n 0
paper (Err f) = refused f

-- THE PARTS: the number of the refusal and its place; or 0 and the values, numbers in halves

-- an element: the octets that it took, and its row
abbrev pub found_paper : Taken code.Row → List ℕ
found_paper (Ok (row, end)) = 0 ∷ end ∷ row_paper row
found_paper (Err f) = number_of f.refusal ∷ f.place ∷ []

-- a BIT STRING: its bits, the address that they begin, and the octets that it took
abbrev pub bits_at_paper : Taken begun.Start → List ℕ
bits_at_paper (Ok (b, end)) = 0 ∷ b.bits ∷ b.address.upper ∷ b.address.lower ∷ end ∷ []
bits_at_paper (Err f) = number_of f.refusal ∷ f.place ∷ []

-- min and max of a range of addresses: the bits of each, and the address that they begin
abbrev pub bounds_paper : Read (begun.Start × begun.Start) → List ℕ
bounds_paper (Ok (b, c)) = 0 ∷ b.bits ∷ b.address.upper ∷ b.address.lower ∷ c.bits ∷ c.address.upper ∷ c.address.lower ∷ []
bounds_paper (Err f) = number_of f.refusal ∷ f.place ∷ []

-- the same, and the octets that the range took
abbrev pub bounds_at_paper : Taken (begun.Start × begun.Start) → List ℕ
bounds_at_paper (Ok ((b, c), end)) = 0 ∷ b.bits ∷ b.address.upper ∷ b.address.lower ∷ c.bits ∷ c.address.upper ∷ c.address.lower ∷ end ∷ []
bounds_at_paper (Err f) = number_of f.refusal ∷ f.place ∷ []

-- a range of addresses: its row; or 9
abbrev pub ranged_paper : Option code.Row → List ℕ
ranged_paper (Some row) = 0 ∷ row_paper row
ranged_paper None = number_of refusal.RangeForm ∷ []

-- a range of AS numbers or routing domain identifiers: its row; or 9
abbrev pub listed_paper : Option code.Row → List ℕ
listed_paper (Some row) = 0 ∷ row_paper row
listed_paper None = number_of refusal.RangeForm ∷ []

-- an INTEGER: the number, and the octets that it took
abbrev pub integer_at_paper : Taken ℕ → List ℕ
integer_at_paper (Ok (x, end)) = 0 ∷ x ∷ end ∷ []
integer_at_paper (Err f) = number_of f.refusal ∷ f.place ∷ []

-- min and max of a range
abbrev pub pair_paper : Read (ℕ × ℕ) → List ℕ
pair_paper (Ok (low, high)) = 0 ∷ low ∷ high ∷ []
pair_paper (Err f) = number_of f.refusal ∷ f.place ∷ []

-- min and max of a range, and the octets that it took
abbrev pub pair_at_paper : Taken (ℕ × ℕ) → List ℕ
pair_at_paper (Ok ((low, high), end)) = 0 ∷ low ∷ high ∷ end ∷ []
pair_at_paper (Err f) = number_of f.refusal ∷ f.place ∷ []

-- a family's space; or 4 or 6
abbrev pub space_of_paper : Result ℕ Refusal → List ℕ
space_of_paper (Ok space) = 0 ∷ space ∷ []
space_of_paper (Err r) = number_of r ∷ 0 ∷ []

-- a family's space, and the octets that its OCTET STRING took
abbrev pub space_at_paper : Taken ℕ → List ℕ
space_at_paper (Ok (space, end)) = 0 ∷ space ∷ end ∷ []
space_at_paper (Err f) = number_of f.refusal ∷ f.place ∷ []

-- a family: its space, and the rows so far (Into: `family` says the code's answer so)
abbrev pub family_paper : Read (ℕ × ℕ) → List ℕ
family_paper (Ok (space, n)) = 0 ∷ space ∷ n ∷ []
family_paper (Err f) = number_of f.refusal ∷ f.place ∷ []

-- "NULL (inherit) or a SEQUENCE of at least one element": the rows so far, and the octets that it took (Into: `chosen`)
abbrev pub chosen_paper : Taken ℕ → List ℕ
chosen_paper (Ok (n, end)) = 0 ∷ n ∷ end ∷ []
chosen_paper (Err f) = number_of f.refusal ∷ f.place ∷ []

-- a list or a value: the rows so far (Into: `counted`)
abbrev pub counted_paper : Read ℕ → List ℕ
counted_paper (Ok n) = 0 ∷ n ∷ []
counted_paper (Err f) = number_of f.refusal ∷ f.place ∷ []

-- THE STEPS OF THE CODE: 0 alone where there is nothing, or the values; of a test the number of the refusal

-- a row that is pushed; or 11
abbrev pub pushed_paper : Result (Unit {0}) Refusal → List ℕ
pushed_paper (Ok u) = 0 ∷ []
pushed_paper (Err r) = number_of r ∷ []

-- a value that is admitted; or 16 or 1, with all that a refusal names
abbrev pub admitted_paper : Result (Unit {0}) Refused → List ℕ
admitted_paper (Ok u) = accepted 0 0
admitted_paper (Err f) = refused f

-- a brief BIT STRING: the octets that it took, and its bits
abbrev pub brief_bits_paper : Option (Brief × ℕ) → List ℕ
brief_bits_paper (Some (b, end)) = 0 ∷ end ∷ b.count ∷ b.bits ∷ []
brief_bits_paper None = 0 ∷ []

-- a brief element of an address family: the octets that it took, and its numbers
abbrev pub brief_row_paper : Option (Span × ℕ) → List ℕ
brief_row_paper (Some (s, end)) = 0 ∷ end ∷ s.low.upper ∷ s.low.lower ∷ s.high.upper ∷ s.high.lower ∷ []
brief_row_paper None = 0 ∷ []

-- a brief INTEGER: the octets that it took, and its number
abbrev pub brief_number_paper : Option (ℕ × ℕ) → List ℕ
brief_number_paper (Some (x, end)) = 0 ∷ end ∷ x ∷ []
brief_number_paper None = 0 ∷ []

-- a range of two of them: the octets that it took, min and max
abbrev pub brief_pair_paper : Option ((ℕ × ℕ) × ℕ) → List ℕ
brief_pair_paper (Some ((min, max), end)) = 0 ∷ end ∷ min ∷ max ∷ []
brief_pair_paper None = 0 ∷ []
