-- The lines of a table's rows: the loop of `rows`, and how long a report is at most. Theorems. Assumes nothing.
--     Lined        the lines of the first k rows are written.        line_same, line_start, line_room, line_turn, line_end        the run keeps its length; before the loop, in it, and after it
--     ok_most, no_most     both texts fit a run that has room for any report
use mathlib.Core.Path.{◌≡◌, refl, sym, ap, ◌∙◌}
use mathlib.Core.List.{List, [], ◌∷◌, ◌++◌, append_assoc, append-nil}
use Prim.Native.Nat.{ℕ, ◌+◌, ◌-◌, ◌*◌, ◌≤◌, ◌<◌}
use native.Mathlib.Omega.{arith}
use lib.ListN.{length, drop, length-append}
use Rattle.number.specs.Halves.{whole}
use Rattle.number.specs.Refusal.{number_of}
use Rattle.table.specs.Sizes.{row_numbers, max_rows}
use Rattle.table.specs.Rows.{Row, seen, in_halves, room, row_at, rows_of}
use Rattle.table.specs.declared.rows.Row as code
use Rattle.table.proofs.Columns.{row_code}
use Rattle.table.proofs.laws.Rows.{length_rows_of, rows_split, rows_read}
use Rattle.values.specs.declared.readings.Refused.{Refused}
use Rattle.der.proofs.laws.Writing.{written_none, length-written}
use Rattle.report.specs.Text.{decimal, hexadecimal, field, hex_field, row_line, row_lines, ok_text, no_text}
use Rattle.report.specs.Reports.{put, room_for}
use Rattle.report.proofs.Digits.{length-decimal, length_hex}
use Rattle.report.proofs.Putting.{Along, begin, next_fits, onward, end}

-- THE LINES

-- of rows and further rows
lines_append : (xs ys : List Row) → row_lines (xs ++ ys) ≡ row_lines xs ++ row_lines ys
unfolding row_lines
lines_append [] ys = refl
lines_append (r ∷ xs) ys = rw (lines_append xs ys) (sym (append_assoc (row_line r) (row_lines xs) (row_lines ys)))

-- of one row more
lines_read : (k : ℕ) (t : List ℕ) → k < room t → row_lines (rows_of (k + 1) t) ≡ row_lines (rows_of k t) ++ row_line (row_at t k)
unfolding row_lines
lines_read k t h = ap row_lines (rows_read k t h) ∙ lines_append (rows_of k t) (row_at t k ∷ []) ∙ ap (λ (l : List ℕ). row_lines (rows_of k t) ++ l) (append-nil (row_line (row_at t k)))

-- fewer rows have no more
lines_fewer : (k n : ℕ) (t : List ℕ) → k ≤ n → length (row_lines (rows_of k t)) ≤ length (row_lines (rows_of n t))
lines_fewer k n t h =
    let e : n ≡ k + (n - k) = omega arith in
    let s : rows_of n t ≡ rows_of k t ++ rows_of (n - k) (drop (row_numbers * k) t) = ap (λ (i : ℕ). rows_of i t) e ∙ rows_split k (n - k) t in
    omega (arith, ap (λ (l : List Row). length (row_lines l)) s, ap length (lines_append (rows_of k t) (rows_of (n - k) (drop (row_numbers * k) t))), length-append (row_lines (rows_of k t)) (row_lines (rows_of (n - k) (drop (row_numbers * k) t))))

-- THE LOOP

-- the lines of the first k of n rows are written
pub record Lined (out : List ℕ) (at : ℕ) (t : List ℕ) (n : ℕ) (left : List ℕ) (k next : ℕ) : Type 0 where
  pub inside : k ≤ n
  pub is : ◌≡◌ {A = ℕ × List ℕ} (next, left) (put out at (row_lines (rows_of k t)))

-- the run keeps its length
pub line_same : {out : List ℕ} {at : ℕ} {t : List ℕ} {n : ℕ} {left : List ℕ} {k next : ℕ} → Lined out at t n left k next → length left ≡ length out
line_same {out} {at} {t} {n} {left} {k} v = ap (λ (z : ℕ × List ℕ). length z.1) v.is ∙ length-written out at (row_lines (rows_of k t))

-- before the loop
pub line_start : (out : List ℕ) (at : ℕ) (t : List ℕ) (n : ℕ) → at + length (row_lines (rows_of n t)) ≤ length out → Lined out at t n out 0 at
unfolding row_lines rows_of
line_start out at t n f =
    let e : at + 0 ≡ at = omega arith in
    record { inside = omega arith; is = rw (e, written_none out at (omega arith)) }

module _ {out : List ℕ} {at : ℕ} {t : List ℕ} {n : ℕ} {left : List ℕ} {k next : ℕ} {row : code.Row} (b : n ≤ room t) (f : at + length (row_lines (rows_of n t)) ≤ length out)
    (v : Lined out at t n left k next) (h : k < n) (e : row ≡ in_halves (row_at t k)) where
  -- the row's line
  line_is : row_line (row_at t k) ≡ row_line (seen row)
  line_is = ap row_line (sym (ap seen e ∙ row_code (row_at t k)))

  -- k lines, and one more
  along : Along out at (row_lines (rows_of k t)) (row_line (seen row) ∷ []) next left
  along =
      let g : at + length (row_lines (rows_of k t) ++ row_line (seen row)) ≤ length out = rw (← line_is, ← lines_read k t (omega arith)) (omega (arith, lines_fewer (k + 1) n t (omega arith))) in
      begin out at (row_lines (rows_of k t)) (row_line (seen row) ∷ []) g v.is

  -- there is room for it
  pub line_room : next + length (row_line (seen row)) ≤ length left
  line_room = next_fits along

  -- and it is written
  pub line_turn : {left' : List ℕ} {next' : ℕ} → ◌≡◌ {A = ℕ × List ℕ} (next', left') (put left next (row_line (seen row))) → Lined out at t n left' (k + 1) next'
  line_turn p = record { inside = omega arith; is = rw (lines_read k t (omega arith), line_is) (end (onward along p)) }

-- after it
pub line_end : {out : List ℕ} {at : ℕ} {t : List ℕ} {n : ℕ} {left : List ℕ} {k next : ℕ} → Lined out at t n left k next → n ≤ k → ◌≡◌ {A = ℕ × List ℕ} (next, left) (put out at (row_lines (rows_of n t)))
line_end {n = n} {k = k} v h = let i = v.inside in let e : k ≡ n = omega arith in rw e at v.is

-- LENGTHS

-- of a field
field_most : (n : ℕ) → length (field n) ≤ 21
unfolding field decimal
field_most n = omega (arith, length-decimal 20 n [])

hex_field_most : (n : ℕ) → length (hex_field n) ≤ 33
unfolding hex_field hexadecimal
hex_field_most n = omega (arith, length_hex 32 n [])

-- of a row
row_most_lem : (r : Row) → length (row_line r) ≤ 87
unfolding row_line decimal
row_most_lem r = simp length-append (omega (arith, length-decimal 20 r.space [], hex_field_most r.low, hex_field_most r.high))

rows_most : (rs : List Row) → length (row_lines rs) ≤ 87 * length rs
unfolding row_lines
rows_most [] = omega arith
rows_most (r ∷ rs) = simp length-append (omega (arith, row_most_lem r, rows_most rs))

-- of a table
pub ok_most : (out : List ℕ) (count pairs n : ℕ) (t : List ℕ) → n ≤ max_rows → room_for ≤ length out → length (ok_text count pairs (rows_of n t)) ≤ length out
unfolding ok_text
ok_most out count pairs n t h g = simp length-append (omega (arith, field_most count, field_most pairs, rows_most (rows_of n t), length_rows_of n t))

-- of a refusal
pub no_most : (out : List ℕ) (f : Refused) → room_for ≤ length out → length (no_text f) ≤ length out
unfolding no_text
no_most out f g =
    simp length-append
    (omega (arith, field_most (number_of f.refusal), field_most f.certificate, field_most f.extension, field_most f.place, field_most f.space, hex_field_most (whole f.value)))
