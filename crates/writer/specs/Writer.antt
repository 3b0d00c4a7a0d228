-- The writer: reply and output. "Writer: 19, 8 (AS kind without rows), 20." "The writer changes only the octets it reports; a refusal changes none and reports 0."
use Rattle.std.specs.Prelude.{ℕ, ◌+◌, ◌*◌, ◌^◌, ◌≤◌, ◌<◌, List, Bool, false, Result, Ok, Err, length, ltb, eqb}
use Rattle.number.specs.Tests.{pick}
use Rattle.number.specs.Halves.{bits}
use Rattle.number.specs.declared.refusal.Refusal.{Refusal}
use Rattle.number.specs.declared.refusal.Refusal.TheVariants as refusal
use Rattle.table.specs.Sizes.{max_rows}
use Rattle.table.specs.Spaces.{mixed_kind, ip_kind, as_kind, width_of}
use Rattle.table.specs.Rows.{Row, room, rows_of}
use Rattle.table.specs.Tables.{is_table}
use Rattle.der.specs.Head.{head_size}
use Rattle.der.specs.Written.{written}
use Rattle.values.specs.Limits.{as_extension}
use Rattle.values.specs.Readings.{naming}
use Rattle.values.specs.declared.readings.Refused.{Refused}
use Rattle.values.specs.Forms.{Form, prefix, range}
use Rattle.values.specs.Encode.{encode}
use Rattle.writer.specs.declared.Form as code
use Rattle.writer.specs.declared.Form.TheVariants as form

-- how many octets were written, or a refusal
abbrev pub Writing : Type 0
Writing = Result ℕ Refused

-- a reply, and the output that is left
abbrev pub Left : Type 0
Left = Writing × List ℕ

-- "Numbers 12 and 16 to 20 name certificate 0 and extension 0"; "The writer's 8 has extension 2 and place 0."
abbrev pub refused_as : Refusal → ℕ → Writing
refused_as r extension = Err (naming r 0 extension 0)

-- "output shorter than the encoding"
abbrev pub put : List ℕ → List ℕ → Left
put e out = pick (ltb (length out) (length e)) (refused_as refusal.OutputShort 0, out) (Ok (length e), written out 0 e)

-- a table lacks the row that its kind asks for: "an AS table at least one"
unfoldable pub rowless : ℕ → ℕ → Bool
rowless kind count = pick (eqb kind as_kind) (eqb count 0) false

-- "kind not 1 (IP) or 2 (AS), above 512 rows, not six numbers a row, rows not as in 'The table', or a row of the other kind"
unfoldable pub write : ℕ → List ℕ → List ℕ → Left
write kind t out =
    pick (eqb kind mixed_kind) (refused_as refusal.NotATable 0, out)
    (pick (is_table kind t)
    (pick (rowless kind (room t)) (refused_as refusal.EmptyList as_extension, out)
    (put (encode kind (rows_of (room t) t)) out))
    (refused_as refusal.NotATable 0, out))

-- WHAT THE CODE'S PARTS SAY

-- at most so many octets: a row's own, the heads before a choice, those before the contents of a choice, and the families of a table
abbrev pub row_most : ℕ
row_most = 40

abbrev pub group_most : ℕ
group_most = 9

abbrev pub heads_most : ℕ
heads_most = 13

abbrev pub families_most : ℕ
families_most = max_rows * (row_most + heads_most)

-- and, with room to spare below the 65,536 that a head can say, the elements of a list, and a choice
abbrev pub list_most : ℕ
list_most = 50000

abbrev pub choice_most : ℕ
choice_most = 60000

-- how many octets an element with n octets of contents has
abbrev pub element_size : ℕ → ℕ
element_size n = head_size n + n

-- the bits that a form keeps
abbrev pub form_seen : Form → code.Form
form_seen (prefix n x) = form.Prefix n
form_seen (range n x m y) = form.Range n m

-- how many bits the numbers of a space have in a table of the kind
abbrev pub bits_for : ℕ → ℕ → ℕ
bits_for kind a = pick (eqb kind ip_kind) (bits (width_of a)) 32

-- a row that lists numbers of its space's width
pub record Lists (kind : ℕ) (r : Row) : Type 0 where
  pub order : r.low ≤ r.high
  pub fits : r.high < 2 ^ bits_for kind r.space
