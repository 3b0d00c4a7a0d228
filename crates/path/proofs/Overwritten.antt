-- Rows that are written over a table's old ones, and what is left of those cleared: the same as in a table of zeros. Assumes nothing.
--     rest_none, rest_lent    what `clear_rest` leaves
--     rest_tabled             the rows, and then zeros
use mathlib.Core.Path.{◌≡◌, refl, sym, ap, ◌∙◌}
use mathlib.Core.List.{List, [], ◌∷◌, ◌++◌, append-nil}
use mathlib.Core.Logic.{◌⊎◌, inl, inr}
use Prim.Native.Nat.{ℕ, min, ◌+◌, ◌-◌, ◌*◌, ◌≤◌, ◌<◌}
use native.Mathlib.Nat.{zero-add}
use native.Mathlib.Omega.{arith}
use lib.ListN.{length, get_or, take, drop, take-append-drop, drop_of_length-le, length-append, length-take, length-drop, get_or-append}
use lib.Seq.{ext_get_or, length-take-le, get_or-take, get_or-drop, get_or-append-add}
use Rattle.number.proofs.Picks.{below, rest_of}
use Rattle.table.specs.Sizes.{row_numbers, max_rows, table_numbers}
use Rattle.table.specs.Rows.{Row, with_row, rows_of, with_rows, cleared}
use Rattle.table.proofs.laws.Rows.{kept_outside, length_rows_of, rows_split, with_rows-append, length-with_rows, with_rows_swap, with_rows_over, length-cleared, cleared_zero, cleared_later}
use Rattle.path.specs.Paths.{tabled, cleared_rest, Full}
use Rattle.path.proofs.Tabled.{with_rows_past}

-- WHAT `clear_rest` LEAVES

module _ (n old : ℕ) (t : List ℕ) where
  -- where the rows are enough, nothing is cleared
  pub rest_none : old ≤ n → t ≡ cleared_rest n old t
  unfolding cleared_rest cleared
  rest_none h =
      let z : row_numbers * (old - n) ≡ 0 = omega arith in
      let m : min 0 (length (drop (row_numbers * n) t)) ≡ 0 = omega arith in
      rw (z, m) (sym (take-append-drop (row_numbers * n) t))

  -- where they are fewer, the part after them is lent and comes back cleared
  pub rest_lent : {part : List ℕ} → part ≡ cleared (row_numbers * (old - n)) (take (length t - row_numbers * n) (drop (row_numbers * n) t))
      → take (row_numbers * n) t ++ (part ++ drop (length t - row_numbers * n) (drop (row_numbers * n) t)) ≡ cleared_rest n old t
  unfolding cleared_rest
  rest_lent p =
      let h : length (drop (row_numbers * n) t) ≤ length t - row_numbers * n = rw length-drop (omega arith) in
      rw (drop_of_length-le (drop (row_numbers * n) t) h, append-nil, p, rest_of (row_numbers * n) t) refl

  -- a run keeps its length
  length_rest : length (cleared_rest n old t) ≡ length t
  unfolding cleared_rest
  length_rest = simp (length-append, length-take, length-cleared, length-drop) (omega arith)

  module _ (fits : row_numbers * n ≤ length t) (k : ℕ) where
    -- the numbers of the rows stay
    rest_first : k < row_numbers * n → get_or (cleared_rest n old t) k 0 ≡ get_or t k 0
    unfolding cleared_rest
    rest_first h =
        let a : k < length (take (row_numbers * n) t) = omega (arith, length-take-le (row_numbers * n) t fits) in
        get_or-append (take (row_numbers * n) t) (cleared (row_numbers * (old - n)) (drop (row_numbers * n) t)) 0 k a ∙ get_or-take (row_numbers * n) t k 0 h

    module _ (h : row_numbers * n ≤ k) where
      -- after them come those of the part
      rest_part : get_or (cleared_rest n old t) k 0 ≡ get_or (cleared (row_numbers * (old - n)) (drop (row_numbers * n) t)) (k - row_numbers * n) 0
      unfolding cleared_rest
      rest_part =
          let q : k ≡ length (take (row_numbers * n) t) + (k - row_numbers * n) = omega (arith, length-take-le (row_numbers * n) t fits) in
          let part = cleared (row_numbers * (old - n)) (drop (row_numbers * n) t) in
          ap (λ (i : ℕ). get_or (take (row_numbers * n) t ++ part) i 0) q ∙ get_or-append-add (take (row_numbers * n) t) part (k - row_numbers * n) 0

      -- what is left of the old rows is zero,
      rest_zero : k < row_numbers * old → get_or (cleared_rest n old t) k 0 ≡ 0
      rest_zero b = rest_part ∙ cleared_zero (row_numbers * (old - n)) (drop (row_numbers * n) t) (k - row_numbers * n) (omega arith)

      -- and what comes later stays
      rest_later : row_numbers * old ≤ k → get_or (cleared_rest n old t) k 0 ≡ get_or t k 0
      rest_later b =
          let q : row_numbers * n + (k - row_numbers * n) ≡ k = omega arith in
          rest_part
          ∙ cleared_later (row_numbers * (old - n)) (drop (row_numbers * n) t) (k - row_numbers * n) (omega arith)
          ∙ get_or-drop (row_numbers * n) t (k - row_numbers * n) 0
          ∙ ap (λ (i : ℕ). get_or t i 0) q

-- ROWS OVER ROWS

-- the numbers before the rows that are written stay
with_rows_before : (t : List ℕ) (n : ℕ) (rs : List Row) (k : ℕ) → k < row_numbers * n → get_or (with_rows t n rs) k 0 ≡ get_or t k 0
unfolding with_rows
with_rows_before t n [] k h = refl
with_rows_before t n (r ∷ rs) k h = with_rows_before (with_row t n r) (n + 1) rs k (omega arith) ∙ kept_outside t n r k (inl h)

-- rows over more rows: those, and then what is left of the old ones
with_rows_fewer : (t : List ℕ) (os qs rs : List Row) → length os ≡ length rs → with_rows (with_rows t 0 (os ++ qs)) 0 rs ≡ with_rows (with_rows t 0 rs) (length rs) qs
with_rows_fewer t os qs rs e =
    ap (λ (l : List ℕ). with_rows l 0 rs) (with_rows-append t 0 os qs)
    ∙ with_rows_swap (with_rows t 0 os) 0 rs (0 + length os) qs (omega arith)
    ∙ ap (λ (l : List ℕ). with_rows l (0 + length os) qs) (with_rows_over t 0 os rs (omega arith))
    ∙ ap (λ (i : ℕ). with_rows (with_rows t 0 rs) i qs) (zero-add (length os) ∙ e)

module _ (old : ℕ) (t : List ℕ) (f : Full old t) (rows : List Row) (few : length rows ≤ max_rows) where
  -- zeros for the table's numbers
  abbrev zeros : List ℕ
  zeros = cleared table_numbers t

  -- they are enough: the old rows are gone
  over_all : old ≤ length rows → with_rows t 0 rows ≡ tabled t rows
  over_all h = ap (λ (l : List ℕ). with_rows l 0 rows) f.rows ∙ with_rows_over zeros 0 (rows_of old t) rows (omega (arith, length_rows_of old t))

  -- they are fewer: the later ones are left
  abbrev left_over : List Row
  left_over = rows_of (old - length rows) (drop (row_numbers * length rows) t)

  abbrev over : List ℕ
  over = with_rows (tabled t rows) (length rows) left_over

  over_some : length rows < old → with_rows t 0 rows ≡ over
  over_some h =
      let e : old ≡ length rows + (old - length rows) = omega arith in
      let s : rows_of old t ≡ rows_of (length rows) t ++ left_over = ap (λ (i : ℕ). rows_of i t) e ∙ rows_split (length rows) (old - length rows) t in
      ap (λ (l : List ℕ). with_rows l 0 rows) (f.rows ∙ ap (λ (rs : List Row). with_rows zeros 0 rs) s)
      ∙ with_rows_fewer zeros (rows_of (length rows) t) left_over rows (length_rows_of (length rows) t)

  -- the table's length, and room for the rows
  same : length over ≡ length (tabled t rows)
  same = length-with_rows (tabled t rows) (length rows) left_over

  fits : row_numbers * length rows ≤ length over
  fits = omega (arith, same, length-with_rows zeros 0 rows, length-cleared table_numbers t, f.long, few)

  -- what is left is cleared
  over_cleared : length rows < old → cleared_rest (length rows) old over ≡ tabled t rows
  over_cleared h = ext_get_or 0 (cleared_rest (length rows) old over) (tabled t rows) (length_rest (length rows) old over ∙ same) (λ k i. go k (below k (row_numbers * length rows)) (below k (row_numbers * old)))
    where
      go : (k : ℕ) → (k < row_numbers * length rows) ⊎ (row_numbers * length rows ≤ k) → (k < row_numbers * old) ⊎ (row_numbers * old ≤ k) → get_or (cleared_rest (length rows) old over) k 0 ≡ get_or (tabled t rows) k 0
      go k (inl p) q = rest_first (length rows) old over fits k p ∙ with_rows_before (tabled t rows) (length rows) left_over k p
      go k (inr p) (inl q) =
          rest_zero (length rows) old over fits k p q
          ∙ sym (with_rows_past zeros 0 rows k (omega arith) ∙ cleared_zero table_numbers t k (omega (arith, f.few)))
      go k (inr p) (inr q) =
          rest_later (length rows) old over fits k p q
          ∙ with_rows_past (tabled t rows) (length rows) left_over k (omega (arith, length_rows_of (old - length rows) (drop (row_numbers * length rows) t)))

  -- so the table has the rows, and then zeros
  pub rest_tabled : cleared_rest (length rows) old (with_rows t 0 rows) ≡ tabled t rows
  rest_tabled = go (below (length rows) old)
    where
      go : (length rows < old) ⊎ (old ≤ length rows) → cleared_rest (length rows) old (with_rows t 0 rows) ≡ tabled t rows
      go (inl h) = ap (λ (l : List ℕ). cleared_rest (length rows) old l) (over_some h) ∙ over_cleared h
      go (inr h) = sym (rest_none (length rows) old (with_rows t 0 rows) h) ∙ over_all h
