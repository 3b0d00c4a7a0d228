-- What one certificate's check tells of the definition, by its reply; and how much it accepts at most. Assumes nothing.
--     refuses, accepts      the reply of `certificate`, and the table that it leaves
--     certificate_small     at most 512 rows, and at most that many pairs and one for each row of the issuer
use mathlib.Core.Path.{◌≡◌, refl, ap, ◌∙◌}
use mathlib.Core.List.{List}
use mathlib.Core.Bool.{Bool, true, false}
use Prim.Native.Nat.{ℕ, ◌+◌, ◌≤◌}
use native.Mathlib.Omega.{arith}
use lib.ListN.{length}
use lib.Dec.{ltb, eqb}
use borrow.Author.Tests.{ltb-false, le-ltb}
use Rattle.std.specs.Prelude.{Ok, Err}
use Rattle.number.specs.Tests.{pick}
use Rattle.number.specs.declared.refusal.Refusal.TheVariants as refusal
use Rattle.table.specs.Sizes.{max_rows, table_numbers}
use Rattle.table.specs.Rows.{Row, with_rows, cleared}
use Rattle.der.specs.Parts.{is, isnt}
use Rattle.values.specs.declared.readings.Refused.{Refused}
use Rattle.path.specs.Walk.{Result, covered, missing, walk}
use Rattle.path.specs.Replies.{fault_at, Reply}
use Rattle.path.specs.declared.replies.Accepted.{Accepted}
use Rattle.path.specs.Certificate.{Above, Step, onward, walk_step, hold_step, inherit_step, after_inheritance, presence_step, after_presence, read_step, after_reading, certificate, Left, left, checked}
use Rattle.path.proofs.laws.Walks.{pairs_few}

-- BY ITS REPLY

-- it refuses, and leaves zeros
pub record Refuses (a : Above) (ip ids t t' : List ℕ) (f : Refused) : Type 0 where
  pub so : certificate a ip ids ≡ isnt f
  pub table : t' ≡ cleared table_numbers t

-- it accepts n rows with so many pairs, and leaves them
pub record Accepts (a : Above) (ip ids t t' : List ℕ) (n pairs : ℕ) : Type 0 where
  pub held : List Row × ℕ
  pub so : certificate a ip ids ≡ is held
  pub rows : n ≡ length held.0
  pub counted : pairs ≡ held.1
  pub table : t' ≡ with_rows t 0 held.0

module _ (a : Above) (ip ids t : List ℕ) (r : Reply) (t' : List ℕ) (long : table_numbers ≤ length t) (e : ◌≡◌ {A = Left} (r, t') (checked a ip ids t)) where
  -- the table is long enough
  opened : ◌≡◌ {A = Left} (r, t') (left (certificate a ip ids) t)
  unfolding checked
  opened = rw (le-ltb (length t) table_numbers long) at e

  -- by a refusal
  pub refuses : (f : Refused) → r ≡ Err f → Refuses a ip ids t t' f
  refuses f y = go (certificate a ip ids) refl opened
    where
      go : (s : Step (List Row × ℕ)) → certificate a ip ids ≡ s → ◌≡◌ {A = Left} (r, t') (left s t) → Refuses a ip ids t t' f
      go (is h) p q = let x = ap (λ (l : Left). l.0) q in let z : ◌≡◌ {A = ℕ} 0 1 = cc in absurd (omega arith)
      go (isnt g) p q = let x = ap (λ (l : Left). l.0) q in let same : g ≡ f = cc in record { so = p ∙ ap (λ (x : Refused). isnt x) same; table = ap (λ (l : Left). l.1) q }

  -- by rows and pairs
  pub accepts : (x : Accepted) → r ≡ Ok x → Accepts a ip ids t t' x.rows x.pairs
  accepts x y = go (certificate a ip ids) refl opened
    where
      go : (s : Step (List Row × ℕ)) → certificate a ip ids ≡ s → ◌≡◌ {A = Left} (r, t') (left s t) → Accepts a ip ids t t' x.rows x.pairs
      go (isnt g) p q = let x = ap (λ (l : Left). l.0) q in let z : ◌≡◌ {A = ℕ} 0 1 = cc in absurd (omega arith)
      go (is h) p q =
          let z = ap (λ (l : Left). l.0) q in
          let same : x ≡ record { rows = length h.0; pairs = h.1 } = cc in
          record { held = h; so = p; rows = ap (λ (y : Accepted). y.rows) same; counted = ap (λ (y : Accepted). y.pairs) same; table = ap (λ (l : Left). l.1) q }

-- HOW MUCH

-- few rows and few pairs
pub record Small (a : Above) (h : List Row × ℕ) : Type 0 where
  pub rows : length h.0 ≤ max_rows
  pub pairs : h.1 ≤ max_rows + length a.rows

-- a step that was taken gave something to the next
record Went {A B : Type 0} (s : Step A) (next : A → Step B) (b : B) : Type 0 where
  given : A
  so : s ≡ is given
  on : next given ≡ is b

-- and each such step is known so
went : {A B : Type 0} (s : Step A) (next : A → Step B) (b : B) → onward s next ≡ is b → Went s next b
went (is x) next b e = record { given = x; so = refl; on = e }
went (isnt f) next b e = let z : ◌≡◌ {A = ℕ} 0 1 = cc in absurd (omega arith)

module _ (a : Above) (h : List Row × ℕ) where
  -- 15 looks at no more pairs than both have rows
  hold_small : (rows : List Row) → length rows ≤ max_rows → hold_step a rows ≡ is h → Small a h
  unfolding hold_step
  hold_small rows few e = go (eqb a.certificates 0) (walk rows a.rows).result (walk rows a.rows).pairs (pairs_few rows a.rows) e
    where
      go : (t : Bool) (w : Result) (k : ℕ) → k ≤ length rows + length a.rows → pick t (is (rows, 0)) (walk_step a.certificates rows w k) ≡ is h → Small a h
      go true w k l q = let p : h ≡ (rows, 0) = cc in rw p (record { rows = few; pairs = omega arith })
      go false covered k l q = let p : h ≡ (rows, k) = cc in rw p (record { rows = few; pairs = omega arith })
      go false (missing s n) k l q = let z : ◌≡◌ {A = ℕ} 0 1 = cc in absurd (omega arith)

  -- 11 lets no more rows through
  count_small : (rows : List Row) → after_inheritance a rows ≡ is h → Small a h
  unfolding after_inheritance
  count_small rows e = go (ltb max_rows (length rows)) refl e
    where
      go : (t : Bool) → ltb max_rows (length rows) ≡ t → onward (pick t (isnt (fault_at refusal.RowCount a.certificates 0 0 0)) (is rows)) (λ own. hold_step a own) ≡ is h → Small a h
      go true p q = let z : ◌≡◌ {A = ℕ} 0 1 = cc in absurd (omega arith)
      go false p q = hold_small rows (ltb-false max_rows (length rows) p) q

  -- so the steps together
  pub certificate_small : (ip ids : List ℕ) → certificate a ip ids ≡ is h → Small a h
  unfolding certificate after_reading after_presence
  certificate_small ip ids e =
      let read = went (read_step a.certificates ip ids) (λ rows. after_reading a ip ids rows) h e in
      let present = went (presence_step a ip ids read.given) (λ own. after_presence a own) h read.on in
      let resolved = went (inherit_step a present.given) (λ own. after_inheritance a own) h present.on in
      count_small resolved.given resolved.on
