-- What a reader answers and leaves of the table, by the cases of its definition's answer. Assumes nothing.
--     counted_is, counted_not      `CountedInto` where all was read, and where there is a refusal.      counted_at      where the table is another's
--     chosen_is, chosen_not        `ChosenInto` likewise.      family_is, family_not        `FamilyInto`
--     stands_still, stands_row, stands_on     a table that nothing was written to, one with a row more, and one thing after another
--     pushed_not, pushed_is        what `push` did where it refused the row, and where it wrote it
use mathlib.Core.Path.{◌≡◌, refl, ◌∙◌}
use mathlib.Core.List.{List}
use Prim.Native.Nat.{ℕ, ◌+◌, ◌≤◌, ◌<◌}
use lib.ListN.{length, drop}
use Rattle.table.specs.Sizes.{max_rows}
use Rattle.table.specs.Rows.{Row, with_row, with_rows}
use Rattle.table.proofs.laws.Rows.{length_with_row, with_row_later}
use Rattle.der.specs.Parts.{Contents, is, isnt, Part, part, nopart}
use Rattle.values.specs.Faults.{Fault}
use Rattle.values.specs.Choices.{Choice, choice_rows}
use Rattle.values.specs.Into.{Stands, Pushed, CountedInto, ChosenInto, FamilyInto}
use Rattle.number.specs.declared.refusal.Refusal.{Refusal}
use Rattle.values.specs.Faults.{Read, Taken}
use Rattle.std.specs.Prelude.{Result, Ok, Err}

-- nothing was written
pub stands_still : (t : List ℕ) → Stands t t
stands_still t = record { long = refl; later = refl }

-- row n was
pub stands_row : (t : List ℕ) (n : ℕ) (r : Row) → n < max_rows → Stands t (with_row t n r)
stands_row t n r h = record { long = length_with_row t n r; later = with_row_later t n r h }

-- more was written after that
pub stands_on : {t t' t'' : List ℕ} → Stands t t' → Stands t' t'' → Stands t t''
stands_on a b = record { long = b.long ∙ a.long; later = b.later ∙ a.later }

module _ (n : ℕ) (t : List ℕ) (row : Row) (r : Result (Unit {0}) Refusal) (n' : ℕ) (t' : List ℕ) (h : Pushed n t row r n' t') where
  -- it is refused
  pub pushed_not : (f : Refusal) → r ≡ Err f → Pushed n t row (Err f) n' t'
  pushed_not f e = rw e at h

  -- it is written
  pub pushed_is : (u : Unit {0}) → r ≡ Ok u → Pushed n t row (Ok u) n' t'
  pushed_is u e = rw e at h

module _ {X : Type 0} (rows : X → List Row) (m n : ℕ) (t t' : List ℕ) (o : Contents X Fault) (r : Read ℕ) where
  -- all was read
  pub counted_is : (x : X) → is x ≡ o → r ≡ Ok (n + length (rows x)) → t' ≡ with_rows t n (rows x) → Stands t t' → CountedInto rows m n t o r t'
  counted_is x e p q h = rw (← e) (p, q, h)

  -- there is a refusal
  pub counted_not : (f : Fault) → isnt f ≡ o → r ≡ Err f → f.place ≤ m → Stands t t' → CountedInto rows m n t o r t'
  counted_not f e q l h = rw (← e) (q, l, h)

  -- the table as its lender has it again
  pub counted_at : (u : List ℕ) → CountedInto rows m n t o r t' → u ≡ t' → CountedInto rows m n t o r u
  counted_at u h e = rw e h

module _ (a : ℕ) (s : List ℕ) (n : ℕ) (t t' : List ℕ) (o : Part Choice Fault) (r : Taken ℕ) where
  -- a choice, in the octets up to an end
  pub chosen_is : (c : Choice) (end : ℕ) → o ≡ part c (drop end s) → r ≡ Ok ((n + length (choice_rows a c)), end) → end ≤ length s → t' ≡ with_rows t n (choice_rows a c) → Stands t t'
      → ChosenInto a s n t o r t'
  chosen_is c end e p l q h = rw e (record { end = end; answer = p; inside = l; over = refl; table = q; stands = h })

  -- a refusal
  pub chosen_not : (f : Fault) → o ≡ nopart f → r ≡ Err f → f.place ≤ length s → Stands t t' → ChosenInto a s n t o r t'
  chosen_not f e q l h = rw e (q, l, h)

module _ (m n : ℕ) (t t' : List ℕ) (o : Contents (ℕ × Choice) Fault) (r : Read (ℕ × ℕ)) where
  -- a family was read
  pub family_is : (a : ℕ) (c : Choice) → is (a, c) ≡ o → r ≡ Ok (a, (n + length (choice_rows a c))) → a ≤ 4095 → t' ≡ with_rows t n (choice_rows a c) → Stands t t' → FamilyInto m n t o r t'
  family_is a c e p l q h = rw (← e) (p, l, q, h)

  -- or refused
  pub family_not : (f : Fault) → isnt f ≡ o → r ≡ Err f → f.place ≤ m → Stands t t' → FamilyInto m n t o r t'
  family_not f e p l h = rw (← e) (p, l, h)
