-- The loop of `is_table`: what holds at its head, and what each way on from there gives. Assumes nothing.
use mathlib.Core.Path.{◌≡◌, sym, ap, ap₂, ◌∙◌}
use mathlib.Core.List.{List, ◌∷◌}
use mathlib.Core.Bool.{Bool, true, false}
use Prim.Native.Nat.{ℕ, suc, ◌+◌, ◌-◌, ◌*◌, ◌%◌, ◌≤◌, ◌<◌}
use native.Mathlib.Nat.{sub-zero}
use native.Mathlib.Omega.{arith}
use lib.ListN.{length, drop}
use lib.Seq.{drop-drop}
use borrow.Author.Tests.{le-ltb, eq-eqb}
use Rattle.table.specs.Sizes.{row_numbers, table_numbers}
use Rattle.table.specs.Spaces.{as_kind}
use Rattle.table.specs.Rows.{Row, seen, in_halves, room, row_at, rows_of}
use Rattle.table.specs.Tables.{proper, follows, listed, is_table}
use Rattle.table.specs.declared.rows.Row as code
use Rattle.table.proofs.Columns.{row_at_lem, row_code}

-- the rows from row k on begin with row k
pub rows_more : (t : List ℕ) (k m : ℕ) → k < room t → rows_of (suc m) (drop (row_numbers * k) t) ≡ row_at t k ∷ rows_of m (drop (row_numbers * (k + 1)) t)
unfolding rows_of
rows_more t k m h =
    let e : row_numbers * k + row_numbers ≡ row_numbers * (k + 1) = omega arith in
    ap₂ (λ (r : Row) (l : List ℕ). r ∷ rows_of m l) (sym (row_at_lem t k h)) (drop-drop row_numbers (row_numbers * k) t ∙ ap (λ (n : ℕ). drop n t) e)

-- o is what the definition gives for the whole; row k is the next, after `before`
pub record Listing (o : Bool) (kind : ℕ) (t : List ℕ) (before : code.Row) (k : ℕ) : Type 0 where
  pub held : listed kind (seen before) (rows_of (room t - k) (drop (row_numbers * k) t)) ≡ o
  pub upto : k ≤ room t

-- where the first three tests hold, the loop begins with the row of zeros
pub list_start : (kind : ℕ) (t : List ℕ) → kind ≤ as_kind → length t % row_numbers ≡ 0 → length t ≤ table_numbers
    → Listing (is_table kind t) kind t (record { space = 0; inherit = 0; low = record { upper = 0; lower = 0 }; high = record { upper = 0; lower = 0 } }) 0
unfolding is_table
list_start kind t p e q =
    record {
      held = rw (le-ltb as_kind kind p, eq-eqb (length t % row_numbers) 0 e, le-ltb table_numbers (length t) q, sub-zero (room t));
      upto = omega arith;
    }

module _ {o : Bool} {kind : ℕ} {t : List ℕ} {before : code.Row} {k : ℕ} (h : Listing o kind t before k) where
  -- all rows were listed
  pub list_end : room t ≤ k → true ≡ o
  unfolding listed rows_of
  list_end p = let e : room t - k ≡ 0 = omega arith in rw e at h.held

  module _ (row : code.Row) (p : k < room t) (e : row ≡ in_halves (row_at t k)) where
    -- the row that is read is the next one
    next : listed kind (seen before) (seen row ∷ rows_of (room t - (k + 1)) (drop (row_numbers * (k + 1)) t)) ≡ o
    next =
        let g : room t - k ≡ suc (room t - (k + 1)) = omega arith in
        let q : seen row ≡ row_at t k = ap (λ (r : code.Row). seen r) e ∙ row_code (row_at t k) in
        ap (λ (r : Row). listed kind (seen before) (r ∷ rows_of (room t - (k + 1)) (drop (row_numbers * (k + 1)) t))) q
        ∙ rw (← rows_more t k (room t - (k + 1)) p, ← g) h.held

    module _ (b : Bool) (q : b ≡ proper kind (seen row)) where
      -- a row that may not stand in the table
      pub list_proper : b ≡ false → false ≡ o
      unfolding listed
      list_proper f = rw (sym q ∙ f) at next

      module _ (y : b ≡ true) (d : Bool) (s : d ≡ follows (seen before) (seen row)) where
        -- a row that may not come after the one before
        pub list_follows : d ≡ false → false ≡ o
        unfolding listed
        list_follows f = rw (sym q ∙ y, sym s ∙ f) at next

        -- a row that may
        pub list_turn : d ≡ true → Listing o kind t row (k + 1)
        unfolding listed
        list_turn f = record { held = rw (sym q ∙ y, sym s ∙ f) at next; upto = omega arith }
