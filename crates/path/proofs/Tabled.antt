-- What a lent table has after its rows are written: the rows, and then zeros. Assumes nothing.
--     with_rows_past           the numbers past the rows stay
--     cleared_tabled          zeros in the place of rows and zeros
--     rows_tabled             the rows that were written
--     full_none, full_tabled  a table of zeros, and one with rows written after that
--     full_clear              the numbers of its rows are all that there is to clear
--     full_rows               its rows as the code reads them
use mathlib.Core.Path.{◌≡◌, refl, sym, ap, ap₂, ◌∙◌}
use mathlib.Core.List.{List, [], ◌∷◌}
use mathlib.Core.Logic.{◌⊎◌, inl, inr}
use Prim.Native.Nat.{ℕ, ◌+◌, ◌*◌, ◌≤◌, ◌<◌}
use native.Mathlib.Omega.{arith}
use lib.ListN.{length, get_or}
use lib.Seq.{ext_get_or}
use Rattle.number.proofs.Picks.{below}
use Rattle.table.specs.Sizes.{row_numbers, max_rows, table_numbers}
use Rattle.table.specs.Rows.{Row, room, with_row, rows_of, rows_in, with_rows, cleared}
use Rattle.table.proofs.laws.Rows.{kept_outside, length_rows_of, length-with_rows, rows_written, length-cleared, cleared_zero, cleared_later, cleared_twice, cleared_rows}
use Rattle.path.specs.Paths.{tabled, Full}
use Rattle.path.proofs.Checking.{rows_in_lem}

-- the numbers past the rows that are written stay
pub with_rows_past : (t : List ℕ) (n : ℕ) (rs : List Row) (k : ℕ) → row_numbers * (n + length rs) ≤ k → get_or (with_rows t n rs) k 0 ≡ get_or t k 0
unfolding with_rows
with_rows_past t n [] k h = refl
with_rows_past t n (r ∷ rs) k h = with_rows_past (with_row t n r) (n + 1) rs k (omega arith) ∙ kept_outside t n r k (inr (omega arith))

module _ (t : List ℕ) where
  -- no row
  pub full_none : table_numbers ≤ length t → Full 0 (cleared table_numbers t)
  unfolding with_rows rows_of
  full_none long = record { long = rw length-cleared long; few = omega arith; rows = sym (cleared_twice table_numbers t) }

  module _ (rows : List Row) (few : length rows ≤ max_rows) where
    -- zeros in the place of rows and zeros
    pub cleared_tabled : cleared table_numbers (tabled t rows) ≡ cleared table_numbers t
    cleared_tabled = cleared_rows (cleared table_numbers t) 0 rows (omega arith) ∙ cleared_twice table_numbers t

    -- the rows that were written
    pub rows_tabled : table_numbers ≤ length t → rows_of (length rows) (tabled t rows) ≡ rows
    rows_tabled long = let h : length rows ≤ room (cleared table_numbers t) = rw length-cleared (omega arith) in rows_written (cleared table_numbers t) rows h

    -- the table has them, and then zeros
    pub full_tabled : (n : ℕ) → table_numbers ≤ length t → n ≡ length rows → Full n (tabled t rows)
    full_tabled n long e =
        record {
          long = rw (length-with_rows, length-cleared) long;
          few = omega arith;
          rows = ap₂ (λ (l : List ℕ) (rs : List Row). with_rows l 0 rs) (sym cleared_tabled) (sym (ap (λ (k : ℕ). rows_of k (tabled t rows)) e ∙ rows_tabled long));
        }

module _ (n : ℕ) (t : List ℕ) (f : Full n t) where
  -- the numbers of the rows are all that there is to clear
  pub full_clear : cleared (row_numbers * n) t ≡ cleared table_numbers t
  full_clear = ext_get_or 0 (cleared (row_numbers * n) t) (cleared table_numbers t) (length-cleared (row_numbers * n) t ∙ sym (length-cleared table_numbers t)) (λ k i. go k (below k (row_numbers * n)))
    where
      go : (k : ℕ) → (k < row_numbers * n) ⊎ (row_numbers * n ≤ k) → get_or (cleared (row_numbers * n) t) k 0 ≡ get_or (cleared table_numbers t) k 0
      go k (inl p) = cleared_zero (row_numbers * n) t k p ∙ sym (cleared_zero table_numbers t k (omega (arith, f.few)))
      go k (inr p) =
          cleared_later (row_numbers * n) t k p
          ∙ ap (λ (l : List ℕ). get_or l k 0) f.rows
          ∙ with_rows_past (cleared table_numbers t) 0 (rows_of n t) k (omega (arith, length_rows_of n t))

  -- as many rows as it has
  pub full_rows : rows_in n t ≡ rows_of n t
  full_rows = rows_in_lem n t f.few f.long
