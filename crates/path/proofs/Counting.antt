-- The loops of `count_in`, `any_inherits` and `count_all`: what holds at their heads, and what each way on from there gives. Assumes nothing.
use mathlib.Core.Path.{◌≡◌, refl, sym, ap, ◌∙◌}
use mathlib.Core.List.{List, [], ◌∷◌, ◌++◌}
use mathlib.Core.Bool.{Bool, true, false}
use Prim.Native.Nat.{ℕ, min, ◌+◌, ◌-◌, ◌*◌, ◌^◌, ◌≤◌, ◌<◌}
use native.Mathlib.Omega.{arith}
use lib.ListN.{length, drop, length-append, get_or-append}
use lib.Seq.{drop-append_seam}
use lib.Dec.{eqb}
use borrow.Author.Tests.{eq-eqb, ne_eqb}
use Rattle.std.specs.Prelude.{Ok, Err}
use Rattle.number.specs.Tests.{pick}
use Rattle.table.specs.Sizes.{row_numbers, max_rows}
use Rattle.table.specs.Rows.{Row, seen, in_halves, room, row_at, rows_of, rows_all}
use Rattle.table.specs.declared.rows.Row as code
use Rattle.table.proofs.Columns.{front_alike, row_at_lem}
use Rattle.table.proofs.laws.Rows.{length_rows_of, rows_split, rows_first, rows_none}
use Rattle.path.specs.Inherit.{in_space, inherits, resolved, all, lacks, or_lacks, lacking, replaced, count_of}
use Rattle.path.proofs.Parts.{rows_got, space_yes, space_no, lacking-append, lacking_last, resolved_last, few_replaced}
use Rattle.path.specs.declared.inherits.Uninherited.TheVariants as uninherited

-- THE ROWS OF A SPACE

-- n of the first k rows are of the space, of m rows that are counted
pub record Counting (t : List ℕ) (m s k n : ℕ) : Type 0 where
  pub count : n ≡ length (in_space s (rows_of k t))
  pub few : n ≤ k
  pub upto : k ≤ m
  pub there : m ≤ room t

pub count_start : (t : List ℕ) (m s : ℕ) → m ≤ room t → Counting t m s 0 0
unfolding rows_of
count_start t m s h = record { count = refl; few = omega arith; upto = omega arith; there = h }

module _ {t : List ℕ} {m s k n : ℕ} (h : Counting t m s k n) where
  pub count_end : m ≤ k → n ≡ length (in_space s (rows_of m t))
  count_end p = let e : m ≡ k = omega arith in rw e h.count

  module _ (p : k < m) (x : ℕ) (e : x ≡ (row_at t k).space) where
    abbrev row : code.Row
    row = in_halves (row_at t k)

    -- one more is of the space, or is not
    pub count_yes : x ≡ s → {i : ℕ} → i ≡ n + 1 → Counting t m s (k + 1) i
    count_yes y {i} q =
        record {
          count = rw (space_yes k t row (omega arith) refl s (sym e ∙ y), length-append) (omega (arith, h.count, q));
          few = omega arith;
          upto = omega arith;
          there = h.there;
        }

    pub count_no : (x ≡ s → ⊥) → {i : ℕ} → i ≡ n → Counting t m s (k + 1) i
    count_no y {i} q =
        record {
          count = rw (space_no k t row (omega arith) refl s (λ z. y (e ∙ z))) (q ∙ h.count);
          few = omega arith;
          upto = omega arith;
          there = h.there;
        }

-- WHETHER A ROW INHERITS

-- o is what the definition gives for the whole; the rest is yet to be asked, cut into rows
pub record Asking (o : Bool) (rest : List ℕ) (size : ℕ) : Type 0 where
  pub same : inherits (rows_all rest) ≡ o
  pub row : size ≡ row_numbers

pub ask_start : (t rest : List ℕ) (size : ℕ) → rest ≡ t → size ≡ row_numbers → Asking (inherits (rows_all t)) rest size
ask_start t rest size e f = record { same = rw e refl; row = f }

module _ {o : Bool} {rest : List ℕ} {size : ℕ} (h : Asking o rest size) where
  -- no row is left
  pub ask_end : length rest < size → false ≡ o
  ask_end p = sym (ap inherits (rows_none rest (omega (arith, h.row)))) ∙ h.same

  -- a row is left
  module _ (row next : List ℕ) (p : rest ≡ row ++ next) (l : length row ≡ size) {m : ℕ} (e : m ≡ (row_at row 0).inherit) where
    long : row_numbers ≤ length rest
    long = rw (p, length-append) (omega (arith, h.row))

    -- it is the first,
    first : row_at rest 0 ≡ row_at row 0
    first =
        row_at_lem rest 0 (omega (arith, long))
        ∙ front_alike rest row (λ i b. rw p (get_or-append row next 0 i (omega (arith, h.row))))
        ∙ sym (row_at_lem row 0 (omega (arith, h.row)))

    -- and the others come after it
    others : drop row_numbers rest ≡ next
    others = rw p (ap (λ (i : ℕ). drop i (row ++ next)) (sym (l ∙ h.row)) ∙ drop-append_seam row next)

    ask_next : pick (eqb m 1) true (inherits (rows_all next)) ≡ o
    ask_next = rw (rows_first rest long, first, others, ← e) at h.same

    -- it inherits
    pub ask_yes : m ≡ 1 → true ≡ o
    ask_yes y = rw (eq-eqb m 1 y) at ask_next

    -- it does not
    pub ask_no : (m ≡ 1 → ⊥) → {size' : ℕ} → size' ≡ size → Asking o next size'
    ask_no y q = record { same = rw (ne_eqb m 1 y) at ask_next; row = q ∙ h.row }

-- ALL ROWS

-- none of the first k rows lacks its space, and they are so many after inheritance, as far as they are counted
pub record Tallying (issuer : List Row) (t : List ℕ) (n k total : ℕ) : Type 0 where
  pub covered : lacking issuer (rows_of k t) ≡ all
  pub tally : total ≡ min (length (resolved issuer (rows_of k t))) (max_rows + 1)
  pub upto : k ≤ n
  pub there : n ≤ room t

pub tally_start : (issuer : List Row) (t : List ℕ) (n : ℕ) → n ≤ room t → Tallying issuer t n 0 0
unfolding rows_of
tally_start issuer t n h = record { covered = refl; tally = omega arith; upto = omega arith; there = h }

module _ {issuer : List Row} {t : List ℕ} {n k total : ℕ} (h : Tallying issuer t n k total) where
  -- the loop's end
  pub tally_end : n ≤ k → Ok total ≡ count_of issuer (rows_of n t)
  unfolding count_of
  tally_end p =
      let e : n ≡ k = omega arith in
      rw (e, h.covered) (ap (λ (i : ℕ). Ok i) h.tally)

  module _ (p : k < n) (row : code.Row) (e : row ≡ in_halves (row_at t k)) (more : ℕ) (q : more ≡ length (replaced issuer (seen row))) where
    got : rows_of (k + 1) t ≡ rows_of k t ++ (seen row ∷ [])
    got = rows_got k t row (omega arith) e

    -- whether the row lacks its space
    next_lacks : lacking issuer (rows_of (k + 1) t) ≡ or_lacks row.space (replaced issuer (seen row)) all
    next_lacks = rw (got, lacking_last issuer (rows_of k t) (seen row), h.covered)

    -- it does
    none : (rs : List Row) → length rs ≡ 0 → or_lacks row.space rs all ≡ lacks row.space
    none [] z = refl
    none (r ∷ rs) z = absurd (omega arith)

    pub tally_lacks : more ≡ 0 → Err (uninherited.NoSpace row.space) ≡ count_of issuer (rows_of n t)
    unfolding count_of
    tally_lacks z =
        let g : n ≡ k + 1 + (n - (k + 1)) = omega arith in
        let split : rows_of n t ≡ rows_of (k + 1) t ++ rows_of (n - (k + 1)) (drop (row_numbers * (k + 1)) t) = ap (λ (i : ℕ). rows_of i t) g ∙ rows_split (k + 1) (n - (k + 1)) t in
        let first : lacking issuer (rows_of (k + 1) t) ≡ lacks row.space = next_lacks ∙ none (replaced issuer (seen row)) (sym q ∙ z) in
        rw (split, lacking-append issuer (rows_of (k + 1) t) (rows_of (n - (k + 1)) (drop (row_numbers * (k + 1)) t)), first)

    -- it does not
    some : (rs : List Row) → (length rs ≡ 0 → ⊥) → or_lacks row.space rs all ≡ all
    some [] z = absurd (z refl)
    some (r ∷ rs) z = refl

    pub tally_turn : (more ≡ 0 → ⊥) → (sum : ℕ) → sum ≡ min (total + more) (max_rows + 1) → Tallying issuer t n (k + 1) sum
    tally_turn z sum s =
        record {
          covered = next_lacks ∙ some (replaced issuer (seen row)) (λ x. z (q ∙ x));
          tally = rw (got, resolved_last issuer (rows_of k t) (seen row), length-append) (omega (arith, s, h.tally, q));
          upto = omega arith;
          there = h.there;
        }

-- the count with one row more fits
pub tally_fits : {t : List ℕ} (source : List ℕ) {n k total more : ℕ} (row : Row)
    → Tallying (rows_all source) t n k total → more ≡ length (replaced (rows_all source) row) → length source < 2 ^ 64 → total + more < 2 ^ 64
tally_fits source row h q b = omega (arith, h.tally, few_replaced (rows_all source) row, length_rows_of (room source) source)
