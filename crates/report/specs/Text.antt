-- The text that `pathtable` prints. "It prints `ok`, rows, pairs; then per row space, low, high, addresses as 32 hexadecimal digits. Or `no`, number, certificate, extension, place, space, value (32 hexadecimal digits). All else is decimal, one blank between fields."
use Rattle.std.specs.Prelude.{ℕ, zero, suc, ◌+◌, ◌/◌, ◌%◌, List, [], ◌∷◌, ◌++◌, ltb, eqb}
use Rattle.number.specs.Tests.{pick}
use Rattle.number.specs.Halves.{whole}
use Rattle.number.specs.Refusal.{number_of}
use Rattle.table.specs.Rows.{Row}
use Rattle.values.specs.declared.readings.Refused.{Refused}

-- the characters in ASCII
abbrev pub blank : ℕ
blank = 0x20

abbrev pub newline : ℕ
newline = 0x0a

-- a digit: 0 to 9, then a to f in lower case
unfoldable pub glyph : ℕ → ℕ
glyph d = pick (ltb d 10) (48 + d) (87 + d)

-- at most k decimal digits of n before others, none of them a leading zero
unfoldable pub decimal_from : ℕ → ℕ → List ℕ → List ℕ
decimal_from zero n s = s
decimal_from (suc k) n s = pick (eqb (n / 10) 0) (glyph (n % 10) ∷ s) (decimal_from k (n / 10) (glyph (n % 10) ∷ s))

-- a number of 64 bits has at most 20
unfoldable pub decimal : ℕ → List ℕ
decimal n = decimal_from 20 n []

-- the last k hexadecimal digits of n before others
unfoldable pub hex_from : ℕ → ℕ → List ℕ → List ℕ
hex_from zero n s = s
hex_from (suc k) n s = hex_from k (n / 16) (glyph (n % 16) ∷ s)

-- "32 hexadecimal digits"
unfoldable pub hexadecimal : ℕ → List ℕ
hexadecimal n = hex_from 32 n []

-- "one blank between fields"
unfoldable pub field : ℕ → List ℕ
field n = blank ∷ decimal n

unfoldable pub hex_field : ℕ → List ℕ
hex_field n = blank ∷ hexadecimal n

-- "per row space, low, high"
unfoldable pub row_line : Row → List ℕ
row_line r = decimal r.space ++ hex_field r.low ++ hex_field r.high ++ (newline ∷ [])

unfoldable pub row_lines : List Row → List ℕ
row_lines [] = []
row_lines (r ∷ rs) = row_line r ++ row_lines rs

-- "`ok`, rows, pairs; then per row .."
unfoldable pub ok_text : ℕ → ℕ → List Row → List ℕ
ok_text count pairs rows = (0x6f ∷ 0x6b ∷ []) ++ field count ++ field pairs ++ (newline ∷ []) ++ row_lines rows

-- "`no`, number, certificate, extension, place, space, value"
unfoldable pub no_text : Refused → List ℕ
no_text f =
    (0x6e ∷ 0x6f ∷ []) ++ field (number_of f.refusal) ++ field f.certificate ++ field f.extension ++ field f.place ++ field f.space
    ++ hex_field (whole f.value) ++ (newline ∷ [])
