-- The columns of a row, as the code reads and writes them. Beside specs/Rows and src/rows.rt nothing else knows which they are. Assumes nothing.
--     code_row, row_code    a row in halves and a row of whole numbers, both ways
--     front_numbers, front_alike    a row and its numbers
--     row_at_lem                what stands at a row that the run has
--     column_read, column_none  a number of a row that the run has, and 0 where it has none
--     row_columns, row_low, row_high    the columns and the row
--     put_row, put_none     what `put` leaves
use mathlib.Core.Path.{◌≡◌, refl, sym, ap, ap₂, ◌∙◌}
use mathlib.Core.List.{List, ◌++◌, append_assoc}
use mathlib.Core.Bool.{Bool, true, false}
use Prim.Native.Nat.{ℕ, ◌+◌, ◌-◌, ◌*◌, ◌≤◌, ◌<◌, ◌^◌}
use native.Mathlib.Omega.{arith}
use lib.ListN.{get_or, take, drop}
use lib.Seq.{get_or-drop}
use borrow.Author.Tests.{lt-ltb, le-ltb}
use borrow.Rule.Slice.PartMut.{put_mid, Post-is}
use Rattle.std.specs.Prelude.{ltb}
use Rattle.number.specs.Tests.{pick}
use Rattle.number.specs.Halves.{halves}
use Rattle.number.specs.declared.halves.Halves.{Halves}
use Rattle.number.proofs.TwoHalves.{halves_whole, whole_halves}
use Rattle.table.specs.Sizes.{row_numbers}
use Rattle.table.specs.Rows.{Row, seen, in_halves, row_paper, numbers, front, nothing, room, column, row_at, with_row}
use Rattle.table.specs.declared.rows.Row as code

-- a row whose halves are of 64 bits is that of its whole numbers
pub code_row : (r : code.Row) → r.low.lower < 2 ^ 64 → r.high.lower < 2 ^ 64 → r ≡ in_halves (seen r)
code_row r p q = ap₂ (λ (l h : Halves). record { space = r.space; inherit = r.inherit; low = l; high = h }) (halves_whole r.low p) (halves_whole r.high q)

-- a row of whole numbers is that of its halves
pub row_code : (r : Row) → seen (in_halves r) ≡ r
row_code r = ap₂ (λ (l h : ℕ). record { space = r.space; inherit = r.inherit; low = l; high = h }) (whole_halves r.low) (whole_halves r.high)

-- a row's numbers are read back as the row, and runs that agree in a row's numbers begin with the same row
pub front_numbers : (r : Row) (l : List ℕ) → front (numbers r ++ l) ≡ r
front_numbers r l = row_code r

pub front_alike : (a b : List ℕ) → ((i : ℕ) → i < row_numbers → get_or a i 0 ≡ get_or b i 0) → front a ≡ front b
front_alike a b h =
    cc (h 0 (omega arith), h 1 (omega arith), h 2 (omega arith), h 3 (omega arith), h 4 (omega arith), h 5 (omega arith))

-- a row by its columns
abbrev by_columns : (ℕ → ℕ) → Row
by_columns f = record { space = f 0; inherit = f 1; low = f 2 * 2 ^ 64 + f 3; high = f 4 * 2 ^ 64 + f 5 }

module _ (t : List ℕ) (n : ℕ) where
  -- a row that the run has
  pub row_at_lem : n < room t → row_at t n ≡ front (drop (row_numbers * n) t)
  unfolding row_at
  row_at_lem h = rw (lt-ltb n (room t) h)

  -- a number that the code reads
  pub column_none : (k : ℕ) → room t ≤ n → 0 ≡ column k t n
  unfolding column
  column_none k h = rw (le-ltb n (room t) h)

  pub column_read : (k : ℕ) → n < room t → get_or t (row_numbers * n + k) 0 ≡ column k t n
  unfolding column
  column_read k h = rw (lt-ltb n (room t) h)

  -- the columns are the row's, zeros where there is none
  columns_by : (b : Bool) → by_columns (λ k. pick b (get_or t (row_numbers * n + k) 0) 0) ≡ pick b (front (drop (row_numbers * n) t)) nothing
  columns_by true = simp get_or-drop refl
  columns_by false = refl

  pub row_columns : by_columns (λ k. column k t n) ≡ row_at t n
  unfolding column row_at
  row_columns = columns_by (ltb n (room t))

  -- two columns are the halves of a number
  module _ (u l : ℕ) (h : l < 2 ^ 64) where
    pub row_low : u ≡ column 2 t n → l ≡ column 3 t n → ◌≡◌ {A = Halves} (record { upper = u; lower = l }) (halves (row_at t n).low)
    row_low p q = halves_whole (record { upper = u; lower = l }) h ∙ ap₂ (λ (a b : ℕ). halves (a * 2 ^ 64 + b)) p q ∙ ap (λ (r : Row). halves r.low) row_columns

    pub row_high : u ≡ column 4 t n → l ≡ column 5 t n → ◌≡◌ {A = Halves} (record { upper = u; lower = l }) (halves (row_at t n).high)
    row_high p q = halves_whole (record { upper = u; lower = l }) h ∙ ap₂ (λ (a b : ℕ). halves (a * 2 ^ 64 + b)) p q ∙ ap (λ (r : Row). halves r.high) row_columns

  module _ (r : code.Row) where
    -- what `put` leaves where the run has no row n, and where it has
    pub put_none : room t ≤ n → t ≡ with_row t n (seen r)
    unfolding with_row
    put_none h = rw (le-ltb n (room t) h)

    pub put_row : {l : List ℕ} → n < room t → r.low.lower < 2 ^ 64 → r.high.lower < 2 ^ 64 → l ≡ row_paper r
        → put_mid (row_numbers * n) (row_numbers * n + row_numbers - row_numbers * n) t l ≡ with_row t n (seen r)
    unfolding with_row
    put_row h p q e =
        let rest = Post-is (row_numbers * n) (row_numbers * n + row_numbers) t (omega arith) in
        rw (lt-ltb n (room t) h)
        (ap₂ (λ (x y : List ℕ). take (row_numbers * n) t ++ (x ++ y)) (e ∙ ap (λ (c : code.Row). row_paper c) (code_row r p q)) rest
        ∙ sym (append_assoc (take (row_numbers * n) t) (numbers (seen r)) (drop (row_numbers * n + row_numbers) t)))
