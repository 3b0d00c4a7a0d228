-- Document 01, "The table": what rows a table may have, as a statement and as a test that computes. (proofs/laws/Tables: the two agree.)
use Rattle.std.specs.Prelude.{◌≡◌, List, [], ◌∷◌, Bool, true, false, ◌⊎◌, ℕ, ◌+◌, ◌%◌, ◌^◌, ◌≤◌, ◌<◌, length, ltb, leb, eqb}
use Rattle.number.specs.Tests.{pick}
use Rattle.number.specs.Halves.{bits}
use Rattle.number.specs.declared.halves.Width.{Width}
use Rattle.table.specs.Sizes.{row_numbers, max_rows, table_numbers}
use Rattle.table.specs.Spaces.{mixed_kind, as_kind, kind_of, width_of}
use Rattle.table.specs.Rows.{Row, nothing, room, rows_of}

-- "Low is at most high." "An inherit row has zeros for low and high."
pub data Sound (r : Row) : Type 0 where
  lists : r.inherit ≡ 0 → r.low ≤ r.high → Sound r
  inherits : r.inherit ≡ 1 → r.low ≡ 0 → r.high ≡ 0 → Sound r

-- "Rows ascend by space, then low. In one space each low is greater than the high before it plus 1." An inherit row "is alone in its space".
pub data Follows (a b : Row) : Type 0 where
  by_space : a.space < b.space → Follows a b
  by_gap : a.space ≡ b.space → a.inherit ≡ 0 → b.inherit ≡ 0 → a.high + 1 < b.low → Follows a b

pub data Tidy : List Row → Type 0 where
  none : Tidy []
  one : {r : Row} → Sound r → Tidy (r ∷ [])
  more : {a b : Row} {rs : List Row} → Sound a → Follows a b → Tidy (b ∷ rs) → Tidy (a ∷ b ∷ rs)

-- "A value's table has rows of its own kind", in one of the spaces; "IPv4 addresses, AS numbers and routing domain identifiers have upper half 0 and lower half up to 4,294,967,295."
pub record Fitting (kind : ℕ) (r : Row) : Type 0 where
  pub known : kind_of r.space ≡ 0 → ⊥
  pub own : (kind ≡ mixed_kind) ⊎ (kind ≡ kind_of r.space)
  pub fits : r.high < 2 ^ bits (width_of r.space)

pub data Each (P : Row → Type 0) : List Row → Type 0 where
  none : Each P []
  more : {r : Row} {rs : List Row} → P r → Each P rs → Each P (r ∷ rs)

-- a table of a kind: "an AS table at least one" row
pub record Allowed (kind : ℕ) (rows : List Row) : Type 0 where
  pub tidy : Tidy rows
  pub fitting : Each (Fitting kind) rows
  pub few : length rows ≤ max_rows
  pub some : kind ≡ as_kind → 0 < length rows

-- THE SAME AS TESTS

abbrev pub fits : Width → ℕ → Bool
fits width n = ltb n (2 ^ bits width)

-- a table of the first kind takes rows of the second
unfoldable pub takes : ℕ → ℕ → Bool
takes kind own = pick (eqb kind mixed_kind) true (eqb kind own)

-- low and high are as the mark asks
unfoldable pub marked : Row → Bool
marked r =
    pick (eqb r.inherit 1) (pick (eqb r.low 0) (eqb r.high 0) false)
    (pick (eqb r.inherit 0) (pick (leb r.low r.high) (fits (width_of r.space) r.high) false) false)

-- a row by itself
unfoldable pub proper : ℕ → Row → Bool
proper kind r = pick (eqb (kind_of r.space) 0) false (pick (takes kind (kind_of r.space)) (marked r) false)

unfoldable pub follows : Row → Row → Bool
follows a b =
    pick (eqb a.space b.space)
    (pick (eqb a.inherit 1) false
    (pick (eqb b.inherit 1) false
    (ltb (a.high + 1) b.low)))
    (ltb a.space b.space)

-- rows that come after another
unfoldable pub listed : ℕ → Row → List Row → Bool
listed kind a [] = true
listed kind a (r ∷ rs) = pick (proper kind r) (pick (follows a r) (listed kind r rs) false) false

-- no row is before the first
unfoldable pub allowed : ℕ → List Row → Bool
allowed kind rows = pick (ltb max_rows (length rows)) false (pick (pick (eqb kind as_kind) (eqb (length rows) 0) false) false (listed kind nothing rows))

-- what refusal 19 asks of the rows: "above 512 rows, not six numbers a row, rows not as in 'The table', or a row of the other kind". That an AS table has a row is refusal 8
unfoldable pub is_table : ℕ → List ℕ → Bool
is_table kind t =
    pick (ltb as_kind kind) false
    (pick (eqb (length t % row_numbers) 0)
    (pick (ltb table_numbers (length t)) false
    (listed kind nothing (rows_of (room t) t)))
    false)
