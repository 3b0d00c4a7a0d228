-- A row, and the six numbers in which a lent run has it: "space, inherit mark (0 or 1), low (upper half, lower half), high (upper half, lower half)".
use Rattle.std.specs.Prelude.{ℕ, zero, suc, ◌+◌, ◌*◌, ◌/◌, ◌^◌, min, List, [], ◌∷◌, ◌++◌, length, get_or, take, drop, replicate, ltb}
use Rattle.number.specs.Tests.{pick}
use Rattle.number.specs.Halves.{whole, halves}
use Rattle.table.specs.Sizes.{row_numbers}
use Rattle.table.specs.declared.rows.Row as code

-- low and high are whole numbers here; the code has them in halves
pub record Row : Type 0 where
  pub space : ℕ
  pub inherit : ℕ
  pub low : ℕ
  pub high : ℕ

-- the code's row, and back
abbrev pub seen : code.Row → Row
seen r = record { space = r.space; inherit = r.inherit; low = whole r.low; high = whole r.high }

abbrev pub in_halves : Row → code.Row
in_halves r = record { space = r.space; inherit = r.inherit; low = halves r.low; high = halves r.high }

-- the numbers of a row: nobody else says how many they are, or in which order
abbrev pub row_paper : code.Row → List ℕ
row_paper r = r.space ∷ r.inherit ∷ r.low.upper ∷ r.low.lower ∷ r.high.upper ∷ r.high.lower ∷ []

abbrev pub numbers : Row → List ℕ
numbers r = row_paper (in_halves r)

-- the row that a run begins with
abbrev pub front : List ℕ → Row
front t = record { space = get_or t 0 0; inherit = get_or t 1 0; low = get_or t 2 0 * 2 ^ 64 + get_or t 3 0; high = get_or t 4 0 * 2 ^ 64 + get_or t 5 0 }

-- zeros, which no table has as a row
abbrev pub nothing : Row
nothing = record { space = 0; inherit = 0; low = 0; high = 0 }

-- how many rows fit a run
abbrev pub room : List ℕ → ℕ
room t = length t / row_numbers

-- row n of a run, zeros where it has none
unfoldable pub row_at : List ℕ → ℕ → Row
row_at t n = pick (ltb n (room t)) (front (drop (row_numbers * n) t)) nothing

-- the number in a column of row n of a run, 0 where it has no row n
unfoldable pub column : ℕ → List ℕ → ℕ → ℕ
column k t n = pick (ltb n (room t)) (get_or t (row_numbers * n + k) 0) 0

-- the run with row n written; as it is where it has no row n
unfoldable pub with_row : List ℕ → ℕ → Row → List ℕ
with_row t n r = pick (ltb n (room t)) (take (row_numbers * n) t ++ numbers r ++ drop (row_numbers * n + row_numbers) t) t

-- the first n rows of a run
unfoldable pub rows_of : ℕ → List ℕ → List Row
rows_of zero t = []
rows_of (suc n) t = front t ∷ rows_of n (drop row_numbers t)

-- the first n rows of a run, or all that it has
abbrev pub rows_in : ℕ → List ℕ → List Row
rows_in n t = rows_of (min n (room t)) t

-- all rows of a run
abbrev pub rows_all : List ℕ → List Row
rows_all t = rows_of (room t) t

-- the run with its first n numbers zero
unfoldable pub cleared : ℕ → List ℕ → List ℕ
cleared n t = replicate (min n (length t)) 0 ++ drop n t

-- the run with rows written one after another, from row n on
unfoldable pub with_rows : List ℕ → ℕ → List Row → List ℕ
with_rows t n [] = t
with_rows t n (r ∷ rs) = with_rows (with_row t n r) (n + 1) rs
