-- The report: the text of a reply and its table, in a lent run of octets.
use Rattle.std.specs.Prelude.{ℕ, min, ◌+◌, List, length, ltb, Ok, Err}
use Rattle.number.specs.Tests.{pick}
use Rattle.table.specs.Sizes.{max_rows}
use Rattle.table.specs.Rows.{rows_in}
use Rattle.der.specs.Written.{written}
use Rattle.report.specs.Text.{ok_text, no_text}
use Rattle.path.specs.Replies.{Reply}

-- characters at a place of the run, and the place after them
abbrev pub put : List ℕ → ℕ → List ℕ → ℕ × List ℕ
put out at s = (at + length s, written out at s)

-- the text of a reply; of a table no more rows than a certificate may have
unfoldable pub text_of : Reply → List ℕ → List ℕ
text_of (Ok x) table = ok_text x.rows x.pairs (rows_in (min x.rows max_rows) table)
text_of (Err f) table = no_text f

-- room for any report
abbrev pub room_for : ℕ
room_for = 65536

unfoldable pub report : Reply → List ℕ → List ℕ → ℕ × List ℕ
report r table out = pick (ltb (length out) room_for) (0, out) (put out 0 (text_of r table))
