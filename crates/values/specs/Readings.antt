-- The readers: reply and table. "On 16 both tables are unchanged. Otherwise .. the first's hold the rows and then zeros (all zeros on refusal); later numbers are unchanged. The reader alone has one table, under the same rule; it tests 16 before 1."
use Rattle.std.specs.Prelude.{Bool, ℕ, ◌+◌, List, length, ltb, eqb}
use Rattle.number.specs.Tests.{pick}
use Rattle.number.specs.Halves.{halves}
use Rattle.number.specs.declared.refusal.Refusal.{Refusal}
use Rattle.number.specs.declared.refusal.Refusal.TheVariants as refusal
use Rattle.table.specs.Sizes.{table_numbers}
use Rattle.table.specs.Rows.{Row, with_rows, cleared}
use Rattle.der.specs.Parts.{Contents, is, isnt}
use Rattle.values.specs.Limits.{ip_extension, as_extension, max_octets}
use Rattle.values.specs.Faults.{Fault, at}
use Rattle.values.specs.Tables.{ip_rows, as_rows}
use Rattle.values.specs.declared.readings.Refused.{Refused}
use Rattle.values.specs.Faults.{Read}
use Rattle.std.specs.Prelude.{Result, Ok, Err}

-- the rows that the table has now, or a refusal
abbrev pub Reading : Type 0
Reading = Result ℕ Refused

-- a reply, and the table that is left
abbrev pub Left : Type 0
Left = Reading × List ℕ

-- what a refusal names: "Space is set for 14 and 15, value for 15, else 0"
abbrev pub naming : Refusal → ℕ → ℕ → ℕ → Refused
naming r certificate extension place = record { refusal = r; certificate = certificate; extension = extension; place = place; space = 0; value = halves 0 }

-- "the reader and the writer alone name certificate 0"
abbrev pub refused_at : Refusal → ℕ → ℕ → Reading
refused_at r extension place = Err (naming r 0 extension place)

-- "a lent table too short": "Numbers 12 and 16 to 20 name certificate 0 and extension 0"
abbrev pub short : List ℕ → Left
short t = (refused_at refusal.TableShort 0 0, t)

-- a refusal leaves zeros
abbrev pub refused_with : ℕ → Fault → List ℕ → Left
refused_with extension f t = (refused_at f.refusal extension f.place, cleared table_numbers t)

-- what the code's readers have counted
abbrev pub answered : ℕ → (Read ℕ) → List ℕ → Left
answered extension (Ok n) t = (Ok n, t)
answered extension (Err f) t = refused_with extension f t

-- rows from row n on
abbrev pub settled : ℕ → ℕ → Contents (List Row) Fault → List ℕ → Left
settled extension n (is rows) t = (Ok (n + length rows), with_rows t n rows)
settled extension n (isnt f) t = refused_with extension f t

-- what the tests before a value is read answer, and the table that they leave
abbrev pub Admission : Type 0
Admission = Result (Unit {0}) Refused × List ℕ

-- 16 before 1, and a table w for what passes
abbrev pub tested : ℕ → Bool → List ℕ → List ℕ → Admission
tested extension b w t =
    pick (ltb (length t) table_numbers) (Err (naming refusal.TableShort 0 0 0), t)
    (pick b (Err (naming refusal.ValueSize 0 extension 0), cleared table_numbers t)
    (Ok tt, w))

-- before a step, and before a value is read by itself
abbrev pub admitted : ℕ → List ℕ → List ℕ → Admission
admitted extension v t = tested extension (ltb max_octets (length v)) t t

abbrev pub admitted_alone : ℕ → List ℕ → List ℕ → Admission
admitted_alone extension v t = tested extension (eqb (length v) 0) (cleared table_numbers t) t

-- a value as a step of a path: its rows are counted on from n
abbrev pub step_of : ℕ → ℕ → Contents (List Row) Fault → List ℕ → List ℕ → Left
step_of extension n rows v t =
    pick (ltb (length t) table_numbers) (short t)
    (pick (ltb max_octets (length v)) (refused_with extension (at 0 refusal.ValueSize) t)
    (settled extension n rows t))

unfoldable pub step_ip : List ℕ → List ℕ → Left
step_ip v t = step_of ip_extension 0 (ip_rows v) v t

-- "The AS value's rows are counted on from the IP rows."
unfoldable pub step_as : List ℕ → ℕ → List ℕ → Left
step_as v n t = step_of as_extension n (as_rows n v) v t

-- a value by itself: "value empty (reader alone) or above 32,768"
abbrev pub alone : ℕ → List ℕ → (List ℕ → Left) → List ℕ → Left
alone extension v step t =
    pick (ltb (length t) table_numbers) (short t)
    (pick (eqb (length v) 0) (refused_with extension (at 0 refusal.ValueSize) t)
    (step (cleared table_numbers t)))

unfoldable pub read_ip : List ℕ → List ℕ → Left
read_ip v t = alone ip_extension v (step_ip v) t

unfoldable pub read_as : List ℕ → List ℕ → Left
read_as v t = alone as_extension v (step_as v 0) t

-- one certificate's two values: "IP rows, then AS rows"; "An empty value here is absent."
abbrev pub on_as : List ℕ → List ℕ → Reading → Left
on_as v t (Ok n) = pick (eqb (length v) 0) (Ok n, t) (step_as v n t)
on_as v t (Err f) = (Err f, t)

abbrev pub then_as : List ℕ → Left → Left
then_as v l = on_as v l.1 l.0

unfoldable pub step_both : List ℕ → List ℕ → List ℕ → Left
step_both ip ids t = then_as ids (pick (eqb (length ip) 0) (Ok 0, t) (step_ip ip t))

unfoldable pub read_both : List ℕ → List ℕ → List ℕ → Left
read_both ip ids t = pick (ltb (length t) table_numbers) (short t) (step_both ip ids (cleared table_numbers t))
