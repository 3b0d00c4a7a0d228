-- `report::put_ok` meets its contract. Assumes nothing.
use mathlib.Core.Path.{◌≡◌}
use mathlib.Core.List.{List, [], ◌∷◌}
use Prim.Native.Nat.{ℕ, ◌≤◌}
use lib.ListN.{length}
use borrow.Author.Rules.{rules}
use Rattle.table.specs.Rows.{Row, rows_all}
use Rattle.report.specs.Text.{newline, field, row_lines, ok_text}
use Rattle.report.specs.Reports.{put}
use Rattle.report.proofs.Putting.{Reached, from_0, begin, first_fits, next_fits, onward, end}
use Rattle.report.proofs.put_ok.Goals as goal

-- "ok", and what follows it
abbrev head : List ℕ
head = 0x6f ∷ 0x6b ∷ []

abbrev after : ℕ → ℕ → List Row → List (List ℕ)
after count pairs rows = field count ∷ field pairs ∷ (newline ∷ []) ∷ row_lines rows ∷ []

module _ (out : List ℕ) (count pairs : ℕ) (rows : List Row) (fits : length (ok_text count pairs rows) ≤ length out) where
  -- "ok" and the first k parts after it are written
  abbrev Wrote : ℕ → ℕ → List ℕ → Type 0
  Wrote = Reached out 0 head (after count pairs rows)

  -- there is room for "ok"
  fit : 2 ≤ length out
  unfolding ok_text
  fit = first_fits out 0 head (after count pairs rows) (from_0 fits)

  module _ {n₁ : ℕ} {out₁ : List ℕ} (e : ◌≡◌ {A = ℕ × List ℕ} (n₁, out₁) (put out 0 head)) where
    -- "ok"
    one : Wrote 0 n₁ out₁
    unfolding ok_text
    one = begin out 0 head (after count pairs rows) (from_0 fits) e

    module _ {n₂ : ℕ} {out₂ : List ℕ} (f : ◌≡◌ {A = ℕ × List ℕ} (n₂, out₂) (put out₁ n₁ (field count))) where
      -- rows
      two : Wrote 1 n₂ out₂
      two = onward one f

      module _ {n₃ : ℕ} {out₃ : List ℕ} (g : ◌≡◌ {A = ℕ × List ℕ} (n₃, out₃) (put out₂ n₂ (field pairs))) where
        -- pairs
        three : Wrote 2 n₃ out₃
        three = onward two g

        -- the end of the line
        four : {n₄ : ℕ} {out₄ : List ℕ} → ◌≡◌ {A = ℕ × List ℕ} (n₄, out₄) (put out₃ n₃ (newline ∷ [])) → Wrote 3 n₄ out₄
        four h = onward three h

pub put-requires : goal.put-requires
put-requires c = fit c.args.out.now c.args.done.rows c.args.done.pairs (rows_all c.args.table.now) c.requires

pub field-requires : goal.field-requires
field-requires c = next_fits (one c.args.out.now c.args.done.rows c.args.done.pairs (rows_all c.args.table.now) c.requires c.put.ensures.written)

pub field-requires-2 : goal.field-requires-2
field-requires-2 c = next_fits (two c.args.out.now c.args.done.rows c.args.done.pairs (rows_all c.args.table.now) c.requires c.put.ensures.written c.field.ensures.written)

pub put-requires-2 : goal.put-requires-2
put-requires-2 c = next_fits (three c.args.out.now c.args.done.rows c.args.done.pairs (rows_all c.args.table.now) c.requires c.put.ensures.written c.field.ensures.written c.field-2.ensures.written)

pub rows-requires : goal.rows-requires
rows-requires c =
    next_fits (four c.args.out.now c.args.done.rows c.args.done.pairs (rows_all c.args.table.now) c.requires c.put.ensures.written c.field.ensures.written c.field-2.ensures.written c.put-2.ensures.written)

pub returns : goal.returns
unfolding ok_text
returns c =
    let e = end
    (onward
    (four c.args.out.now c.args.done.rows c.args.done.pairs (rows_all c.args.table.now) c.requires c.put.ensures.written c.field.ensures.written c.field-2.ensures.written c.put-2.ensures.written)
    c.rows.ensures.written) in
    search rules
