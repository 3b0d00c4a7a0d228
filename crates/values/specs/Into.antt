-- What a reader answers, and leaves of the lent table t: its rows from row n on. Whatever it answers, the numbers after the first 3,072 stay.
use Rattle.std.specs.Prelude.{ℕ, ◌+◌, ◌≤◌, ◌<◌, ◌≡◌, List, length, drop}
use Rattle.number.specs.declared.refusal.Refusal.{Refusal}
use Rattle.number.specs.declared.refusal.Refusal.TheVariants as refusal
use Rattle.table.specs.Sizes.{max_rows, table_numbers}
use Rattle.table.specs.Rows.{Row, with_row, with_rows}
use Rattle.der.specs.Parts.{Contents, is, isnt, Part, part, nopart}
use Rattle.values.specs.Faults.{Fault, Read, Taken}
use Rattle.values.specs.Choices.{Choice, choice_rows}
use Rattle.values.specs.declared.counted.Rows.{Rows}
use Rattle.std.specs.Prelude.{Result, Ok, Err}

-- the table is as long as it was, and its numbers after the first 3,072 are the same
pub record Stands (t t' : List ℕ) : Type 0 where
  pub long : length t' ≡ length t
  pub later : drop table_numbers t' ≡ drop table_numbers t

-- a row after n rows, or "row 513"
abbrev pub Pushed : ℕ → List ℕ → Row → Result (Unit {0}) Refusal → ℕ → List ℕ → Type 0
Pushed n t row (Ok u) n' t' = (n < max_rows) × (n' ≡ n + 1) × (t' ≡ with_row t n row)
Pushed n t row (Err f) n' t' = (max_rows ≤ n) × (f ≡ refusal.RowCount) × (n' ≡ n) × (t' ≡ t)

-- what the code answers, with the n rows that there are now
abbrev pub counted : ℕ → Read (Unit {0}) → Read ℕ
counted n (Ok u) = Ok n
counted n (Err f) = Err f

-- of a choice, with the octets that it took
abbrev pub chosen : ℕ → Read ℕ → Taken ℕ
chosen n (Ok end) = Ok (n, end)
chosen n (Err f) = Err f

-- of a family, with its space
abbrev pub family : ℕ → Read ℕ → Read (ℕ × ℕ)
family n (Ok a) = Ok (a, n)
family n (Err f) = Err f

-- the rows of all that was read of m octets, after n rows
abbrev pub CountedInto : {X : Type 0} → (X → List Row) → ℕ → ℕ → List ℕ → Contents X Fault → (Read ℕ) → List ℕ → Type 0
CountedInto rows m n t (is x) r t' = (r ≡ Ok (n + length (rows x))) × (t' ≡ with_rows t n (rows x)) × Stands t t'
CountedInto rows m n t (isnt f) r t' = (r ≡ Err f) × (f.place ≤ m) × Stands t t'

-- the rows of a part of s in the space a, and how many octets it took
pub record ChosenRows (a : ℕ) (s : List ℕ) (n : ℕ) (t : List ℕ) (c : Choice) (rest : List ℕ) (r : Taken ℕ) (t' : List ℕ) : Type 0 where
  pub end : ℕ
  pub answer : r ≡ Ok ((n + length (choice_rows a c)), end)
  pub inside : end ≤ length s
  pub over : rest ≡ drop end s
  pub table : t' ≡ with_rows t n (choice_rows a c)
  pub stands : Stands t t'

abbrev pub ChosenInto : ℕ → List ℕ → ℕ → List ℕ → Part Choice Fault → (Taken ℕ) → List ℕ → Type 0
ChosenInto a s n t (part c rest) r t' = ChosenRows a s n t c rest r t'
ChosenInto a s n t (nopart f) r t' = (r ≡ Err f) × (f.place ≤ length s) × Stands t t'

-- a family's space and its rows
abbrev pub FamilyInto : ℕ → ℕ → List ℕ → Contents (ℕ × Choice) Fault → (Read (ℕ × ℕ)) → List ℕ → Type 0
FamilyInto m n t (is x) r t' = (r ≡ Ok (x.0, (n + length (choice_rows x.0 x.1)))) × (x.0 ≤ 4095) × (t' ≡ with_rows t n (choice_rows x.0 x.1)) × Stands t t'
FamilyInto m n t (isnt f) r t' = (r ≡ Err f) × (f.place ≤ m) × Stands t t'

-- THE SAME OF THE ROWS SO FAR: as they were before a reader, and as they are after it

abbrev pub CountedOn : {X : Type 0} → (X → List Row) → ℕ → Rows → Contents X Fault → Read (Unit {0}) → Rows → Type 0
CountedOn rows m a o r b = CountedInto rows m a.count a.table.now o (counted b.count r) b.table.now

abbrev pub ChosenOn : ℕ → List ℕ → Rows → Part Choice Fault → Read ℕ → Rows → Type 0
ChosenOn x s a o r b = ChosenInto x s a.count a.table.now o (chosen b.count r) b.table.now

abbrev pub FamilyOn : ℕ → Rows → Contents (ℕ × Choice) Fault → Read ℕ → Rows → Type 0
FamilyOn m a o r b = FamilyInto m a.count a.table.now o (family b.count r) b.table.now
