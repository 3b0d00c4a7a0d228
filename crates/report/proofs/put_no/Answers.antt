-- `report::put_no` meets its contract. Assumes nothing.
use mathlib.Core.Path.{◌≡◌, ap}
use mathlib.Core.List.{List, [], ◌∷◌}
use Prim.Native.Nat.{ℕ, ◌≤◌}
use lib.ListN.{length}
use borrow.Author.Rules.{rules}
use Rattle.number.specs.Halves.{whole}
use Rattle.number.specs.Refusal.{number_of}
use Rattle.values.specs.declared.readings.Refused.{Refused}
use Rattle.report.specs.Text.{newline, field, hex_field, no_text}
use Rattle.report.specs.Reports.{put}
use Rattle.report.proofs.Putting.{Reached, from_0, fits_same, put_same, begin, first_fits, next_fits, onward, end}
use Rattle.report.proofs.put_no.Goals as goal

-- "no", and what follows it
abbrev head : List ℕ
head = 0x6e ∷ 0x6f ∷ []

abbrev after : Refused → List (List ℕ)
after f = field (number_of f.refusal) ∷ field f.certificate ∷ field f.extension ∷ field f.place ∷ field f.space ∷ hex_field (whole f.value) ∷ (newline ∷ []) ∷ []

module _ (out : List ℕ) (f : Refused) (fits : length (no_text f) ≤ length out) where
  -- "no" and the first k parts after it are written
  abbrev Wrote : ℕ → ℕ → List ℕ → Type 0
  Wrote = Reached out 0 head (after f)

  -- there is room for "no"
  fit : 2 ≤ length out
  unfolding no_text
  fit = first_fits out 0 head (after f) (from_0 fits)

  module _ {n₁ : ℕ} {out₁ : List ℕ} (a : ◌≡◌ {A = ℕ × List ℕ} (n₁, out₁) (put out 0 head)) where
    -- "no"
    one : Wrote 0 n₁ out₁
    unfolding no_text
    one = begin out 0 head (after f) (from_0 fits) a

    module _ {n : ℕ} (q : n ≡ number_of f.refusal) {n₂ : ℕ} {out₂ : List ℕ} (b : ◌≡◌ {A = ℕ × List ℕ} (n₂, out₂) (put out₁ n₁ (field n))) where
      -- number
      two : Wrote 1 n₂ out₂
      two = onward one (put_same out₁ n₁ (field (number_of f.refusal)) (ap field q) b)

      module _ {n₃ : ℕ} {out₃ : List ℕ} (c : ◌≡◌ {A = ℕ × List ℕ} (n₃, out₃) (put out₂ n₂ (field f.certificate))) where
        -- certificate
        three : Wrote 2 n₃ out₃
        three = onward two c

        module _ {n₄ : ℕ} {out₄ : List ℕ} (d : ◌≡◌ {A = ℕ × List ℕ} (n₄, out₄) (put out₃ n₃ (field f.extension))) where
          -- extension
          four : Wrote 3 n₄ out₄
          four = onward three d

          module _ {n₅ : ℕ} {out₅ : List ℕ} (g : ◌≡◌ {A = ℕ × List ℕ} (n₅, out₅) (put out₄ n₄ (field f.place))) where
            -- place
            five : Wrote 4 n₅ out₅
            five = onward four g

            module _ {n₆ : ℕ} {out₆ : List ℕ} (h : ◌≡◌ {A = ℕ × List ℕ} (n₆, out₆) (put out₅ n₅ (field f.space))) where
              -- space
              six : Wrote 5 n₆ out₆
              six = onward five h

              -- value
              seven : {n₇ : ℕ} {out₇ : List ℕ} → ◌≡◌ {A = ℕ × List ℕ} (n₇, out₇) (put out₆ n₆ (hex_field (whole f.value))) → Wrote 6 n₇ out₇
              seven i = onward six i

pub put-requires : goal.put-requires
put-requires c = fit c.args.out.now c.args.fault c.requires

pub field-requires : goal.field-requires
field-requires c =
    fits_same c.put.new.self.out.now c.put.new.self.at (field c.from.result) (ap field c.from.ensures) (next_fits (one c.args.out.now c.args.fault c.requires c.put.ensures.written))

pub field-requires-2 : goal.field-requires-2
field-requires-2 c = next_fits (two c.args.out.now c.args.fault c.requires c.put.ensures.written c.from.ensures c.field.ensures.written)

pub field-requires-3 : goal.field-requires-3
field-requires-3 c = next_fits (three c.args.out.now c.args.fault c.requires c.put.ensures.written c.from.ensures c.field.ensures.written c.field-2.ensures.written)

pub field-requires-4 : goal.field-requires-4
field-requires-4 c = next_fits (four c.args.out.now c.args.fault c.requires c.put.ensures.written c.from.ensures c.field.ensures.written c.field-2.ensures.written c.field-3.ensures.written)

pub field-requires-5 : goal.field-requires-5
field-requires-5 c = next_fits (five c.args.out.now c.args.fault c.requires c.put.ensures.written c.from.ensures c.field.ensures.written c.field-2.ensures.written c.field-3.ensures.written c.field-4.ensures.written)

pub hex_field-requires : goal.hex_field-requires
hex_field-requires c = next_fits (six c.args.out.now c.args.fault c.requires c.put.ensures.written c.from.ensures c.field.ensures.written c.field-2.ensures.written c.field-3.ensures.written c.field-4.ensures.written c.field-5.ensures.written)

pub put-requires-2 : goal.put-requires-2
put-requires-2 c = next_fits (seven c.args.out.now c.args.fault c.requires c.put.ensures.written c.from.ensures c.field.ensures.written c.field-2.ensures.written c.field-3.ensures.written c.field-4.ensures.written c.field-5.ensures.written c.hex_field.ensures.written)

pub returns : goal.returns
unfolding no_text
returns c =
    let e = end
    (onward
    (seven c.args.out.now c.args.fault c.requires c.put.ensures.written c.from.ensures c.field.ensures.written c.field-2.ensures.written c.field-3.ensures.written c.field-4.ensures.written c.field-5.ensures.written c.hex_field.ensures.written)
    c.put-2.ensures.written) in
    search rules
