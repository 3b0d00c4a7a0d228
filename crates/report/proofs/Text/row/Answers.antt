-- `report::Text::row` meets its contract. Assumes nothing.
use mathlib.Core.Path.{◌≡◌}
use mathlib.Core.List.{List, [], ◌∷◌}
use Prim.Native.Nat.{ℕ, ◌+◌, ◌≤◌}
use lib.ListN.{length}
use Rattle.number.specs.Halves.{whole}
use Rattle.table.specs.Rows.{seen}
use Rattle.table.specs.declared.rows.Row.{Row}
use Rattle.report.specs.Text.{newline, decimal, hex_field, row_line}
use Rattle.report.specs.Reports.{put}
use Rattle.report.proofs.Putting.{Reached, begin, first_fits, next_fits, onward, end}
use Rattle.report.proofs.Text.row.Goals as goal

-- what follows the space in a row's line
abbrev after : Row → List (List ℕ)
after r = hex_field (whole r.low) ∷ hex_field (whole r.high) ∷ (newline ∷ []) ∷ []

module _ (out : List ℕ) (at : ℕ) (r : Row) (fits : at + length (row_line (seen r)) ≤ length out) where
  -- the space and the first k parts after it are written
  abbrev Wrote : ℕ → ℕ → List ℕ → Type 0
  Wrote = Reached out at (decimal r.space) (after r)

  module _ {n₁ : ℕ} {out₁ : List ℕ} (e : ◌≡◌ {A = ℕ × List ℕ} (n₁, out₁) (put out at (decimal r.space))) where
    -- the space
    one : Wrote 0 n₁ out₁
    unfolding row_line
    one = begin out at (decimal r.space) (after r) fits e

    module _ {n₂ : ℕ} {out₂ : List ℕ} (f : ◌≡◌ {A = ℕ × List ℕ} (n₂, out₂) (put out₁ n₁ (hex_field (whole r.low)))) where
      -- low
      two : Wrote 1 n₂ out₂
      two = onward one f

      -- high
      three : {n₃ : ℕ} {out₃ : List ℕ} → ◌≡◌ {A = ℕ × List ℕ} (n₃, out₃) (put out₂ n₂ (hex_field (whole r.high))) → Wrote 2 n₃ out₃
      three g = onward two g

pub decimal-requires : goal.decimal-requires
unfolding row_line
decimal-requires c = first_fits c.args.self.now.out.now c.args.self.now.at (decimal c.args.row.space) (after c.args.row) c.requires

pub hex_field-requires : goal.hex_field-requires
hex_field-requires c = next_fits (one c.args.self.now.out.now c.args.self.now.at c.args.row c.requires c.decimal.ensures.written)

pub hex_field-requires-2 : goal.hex_field-requires-2
hex_field-requires-2 c = next_fits (two c.args.self.now.out.now c.args.self.now.at c.args.row c.requires c.decimal.ensures.written c.hex_field.ensures.written)

pub put-requires : goal.put-requires
put-requires c = next_fits (three c.args.self.now.out.now c.args.self.now.at c.args.row c.requires c.decimal.ensures.written c.hex_field.ensures.written c.hex_field-2.ensures.written)

pub returns-clause-written : goal.returns-clause-written
unfolding row_line
returns-clause-written c = end (onward (three c.args.self.now.out.now c.args.self.now.at c.args.row c.requires c.decimal.ensures.written c.hex_field.ensures.written c.hex_field-2.ensures.written) c.put.ensures.written)
