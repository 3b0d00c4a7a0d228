-- DEMAND 3: THE PATH CHECK ACCEPTS EXACTLY THE RIGHT PATHS, and what it leaves. Theorems. Assumes nothing.
--     path_exact          over a well-framed bundle of which no certificate has more than 512 rows after inheritance, the check accepts exactly if the path is right
--     path_table          where it accepts, the first table has the one tidy list of rows that hold what the last certificate holds
--     path_pairs          and the pairs are those of the definition, at most the row counts added
--     first_at_fault      where it refuses, it names the fault of the first certificate that has one
--     smallest_missing    where that is a number that the issuer does not hold, it names the smallest
use mathlib.Core.Path.{◌≡◌, refl, sym, ap, ◌∙◌}
use mathlib.Core.List.{List, [], ◌∷◌}
use mathlib.Core.Logic.{◌↔◌}
use Prim.Native.Nat.{ℕ, suc, ◌≤◌}
use native.Mathlib.Omega.{arith}
use lib.ListN.{length}
use borrow.Author.Tests.{le-ltb}
use Rattle.std.specs.Prelude.{Ok, Err}
use Rattle.number.specs.Halves.{whole}
use Rattle.number.specs.Refusal.{number_of}
use Rattle.number.specs.declared.refusal.Refusal.{Refusal}
use Rattle.number.specs.declared.refusal.Refusal.TheVariants as refusal
use Rattle.number.proofs.TwoHalves.{whole_halves}
use Rattle.table.specs.Sizes.{table_numbers}
use Rattle.table.specs.Rows.{Row, cleared}
use Rattle.table.specs.Tables.{Tidy, Each}
use Rattle.table.specs.Holdings.{Holds, Inherits}
use Rattle.table.proofs.laws.Only.{only_table}
use Rattle.values.specs.declared.readings.Refused.{Refused}
use Rattle.path.specs.Certificate.{Step, anchor}
use Rattle.path.specs.Paths.{descent, path_of, Left, tabled, leaves, check}
use Rattle.path.specs.Demand.{Certificate, Held, Right, values_of, bundle, rows_at, Framed, Few, pairs_at, pairs_most, last, Missing, Fault, First}
use Rattle.path.proofs.laws.Walks.{AllListed}
use Rattle.path.proofs.laws.Framing.{framing_reads, framing_finds}
use Rattle.path.proofs.laws.Lines.{line_holds, holds_line, Passing, line_lists, line_tidy}
use Rattle.path.proofs.laws.Descents.{Outcome, descends, passing_right, no_stop, stop_first, pairs_most_lem}
use Rattle.path.specs.Replies.{Reply}
use Rattle.path.specs.declared.replies.Accepted.{Accepted}

-- THE CHECK IS THE DESCENT

-- as many values as certificates
length-values : (path : List Certificate) → length (values_of path) ≡ length path
length-values [] = refl
length-values (c ∷ path) = ap (λ (n : ℕ). suc n) (length-values path)

-- the path of a framed bundle is the descent over the values of its certificates
path_is : (path : List Certificate) → Framed path → path_of (bundle path) ≡ descent anchor 0 (values_of path)
unfolding path_of
path_is path f =
    let n = length-values path in
    rw (framing_reads (values_of path) (omega (arith, f.some)) (omega (arith, f.few)) f.fits) (ap (λ (cs : List (List ℕ × List ℕ)). descent anchor 0 cs) (framing_finds (values_of path)))

-- what it comes to: every certificate passes, or the first at fault is named
pub outcome : (path : List Certificate) → Framed path → Outcome [] path (path_of (bundle path))
outcome path f = rw (path_is path f) (descends [] path Passing.none f.proper)

-- with tables that are long enough the check replies as the path does
pub check_is : (b first second : List ℕ) → table_numbers ≤ length first → table_numbers ≤ length second → check b first second ≡ leaves (path_of b) first second
unfolding check
check_is b first second l m = rw (le-ltb (length first) table_numbers l, le-ltb (length second) table_numbers m)

-- an acceptance is no refusal
no_both : {n p : ℕ} {f : Refused} → ◌≡◌ {A = Reply} (Ok (record { rows = n; pairs = p })) (Err f) → ⊥
no_both {n} {p} {f} e = let z : ◌≡◌ {A = ℕ} 0 1 = cc in omega arith

-- EXACTLY THE RIGHT PATHS

-- the check replies with an acceptance
pub record Accepts (l : Left) : Type 0 where
  pub rows : ℕ
  pub pairs : ℕ
  pub is : l.0 ≡ Ok (record { rows = rows; pairs = pairs })

-- Over a well-framed bundle of 1 to 8 certificates, none with more than 512 rows after inheritance, the check accepts exactly if the path is right.
pub path_exact : (path : List Certificate) (first second : List ℕ) → Framed path → Few path → table_numbers ≤ length first → table_numbers ≤ length second
    → Accepts (check (bundle path) first second) ↔ Right path
path_exact path first second f w l m = rw (check_is (bundle path) first second l m) (accepted (outcome path f), right (outcome path f))
  where
    accepted : {o : Step (List Row × ℕ)} → Outcome [] path o → Accepts (leaves o first second) → Right path
    accepted (Outcome.passes a) h = passing_right path a
    accepted (Outcome.stops s) h = absurd (no_both (sym h.is))

    right : {o : Step (List Row × ℕ)} → Outcome [] path o → Right path → Accepts (leaves o first second)
    right (Outcome.passes a) r = record { rows = _; pairs = _; is = refl }
    right (Outcome.stops {f = g} s) r = absurd (no_stop path g r w s)

-- THE TABLE AND THE COUNT

-- After an acceptance with n rows the first table, t, has them and then zeros, and the second, u, has zeros. They hold what the last certificate of the path holds, and no other tidy list of rows that inherit nothing does.
pub record Table (path : List Certificate) (first second : List ℕ) (n : ℕ) (t u : List ℕ) : Type 0 where
  pub rows : List Row
  pub written : t ≡ tabled first rows
  pub zeros : u ≡ cleared table_numbers second
  pub count : n ≡ length rows
  pub tidy : Tidy rows
  pub lists : AllListed rows
  pub holds : (s k : ℕ) → Holds s k rows ↔ Held s k (last path)
  pub only : (others : List Row) → Tidy others → AllListed others → ((s k : ℕ) → Holds s k others ↔ Held s k (last path)) → others ≡ rows

-- rows that all list inherit nothing
no_inherit : {s : ℕ} {rows : List Row} → AllListed rows → Inherits s rows → ⊥
no_inherit Each.none h = elim h [ ]
no_inherit (Each.more e l) (Inherits.here i q) = omega arith
no_inherit (Each.more e l) (Inherits.there h) = no_inherit l h

-- the rows of a path that passes
rows_table : (path : List Certificate) (first second : List ℕ) (n : ℕ) (t u : List ℕ) → Passing (last path) → t ≡ tabled first (rows_at (last path)) → u ≡ cleared table_numbers second → n ≡ length (rows_at (last path)) → Table path first second n t u
rows_table path first second n t u a e f g =
    record {
      rows = rows_at (last path);
      written = e;
      zeros = f;
      count = g;
      tidy = line_tidy a;
      lists = line_lists a;
      holds = λ s k. (λ h. holds_line (last path) h, λ h. line_holds h);
      only = λ others o l h.
          only_table o (line_tidy a) (λ s k i. line_holds ((h s k).0 i)) (λ s k i. (h s k).1 (holds_line (last path) i)) (λ s i. absurd (no_inherit l i)) (λ s i. absurd (no_inherit (line_lists a) i));
    }

-- an acceptance, and what is left, as the descent has them
record Left_as (path : List Certificate) (first second : List ℕ) (n p : ℕ) (t u : List ℕ) : Type 0 where
  passing : Passing (last path)
  rows : length (rows_at (last path)) ≡ n
  pairs : pairs_at (last path) ≡ p
  one : tabled first (rows_at (last path)) ≡ t
  two : cleared table_numbers second ≡ u

accepted_as : (path : List Certificate) (first second : List ℕ) → Framed path → table_numbers ≤ length first → table_numbers ≤ length second
    → (n p : ℕ) (t u : List ℕ) → check (bundle path) first second ≡ (Ok (record { rows = n; pairs = p }), t, u) → Left_as path first second n p t u
accepted_as path first second f l m n p t u e = go (outcome path f) (sym (check_is (bundle path) first second l m) ∙ e)
  where
    go : {o : Step (List Row × ℕ)} → Outcome [] path o → leaves o first second ≡ (Ok (record { rows = n; pairs = p }), t, u) → Left_as path first second n p t u
    go (Outcome.passes a) q =
        let r : ◌≡◌ {A = Reply} (Ok (record { rows = length (rows_at (last path)); pairs = pairs_at (last path) })) (Ok (record { rows = n; pairs = p })) = ap (λ (x : Left). x.0) q in
        let same : ◌≡◌ {A = Accepted} (record { rows = length (rows_at (last path)); pairs = pairs_at (last path) }) (record { rows = n; pairs = p }) = cc r in
        record { passing = a; rows = ap (λ (x : Accepted). x.rows) same; pairs = ap (λ (x : Accepted). x.pairs) same; one = ap (λ (x : Left). x.1) q; two = ap (λ (x : Left). x.2) q }
    go (Outcome.stops s) q = absurd (no_both (sym (ap (λ (x : Left). x.0) q)))

-- Where the check accepts, it leaves that table.
pub path_table : (path : List Certificate) (first second : List ℕ) → Framed path → table_numbers ≤ length first → table_numbers ≤ length second
    → (n p : ℕ) (t u : List ℕ) → check (bundle path) first second ≡ (Ok (record { rows = n; pairs = p }), t, u) → Table path first second n t u
path_table path first second f l m n p t u e =
    let h = accepted_as path first second f l m n p t u e in
    rows_table path first second n t u h.passing (sym h.one) (sym h.two) (sym h.rows)

-- Its count of pairs is that of the definition, and at most the two row counts added, for each certificate below the anchor.
pub path_pairs : (path : List Certificate) (first second : List ℕ) → Framed path → table_numbers ≤ length first → table_numbers ≤ length second
    → (n p : ℕ) (t u : List ℕ) → check (bundle path) first second ≡ (Ok (record { rows = n; pairs = p }), t, u) → (p ≡ pairs_at (last path)) × (p ≤ pairs_most (last path))
path_pairs path first second f l m n p t u e =
    let h = accepted_as path first second f l m n p t u e in
    let q = pairs_most_lem (last path) in
    let r = h.pairs in
    (sym r, omega arith)

-- THE FIRST AT FAULT

-- Where the check refuses a well-framed bundle, it names the fault of the first certificate that has one.
pub first_at_fault : (path : List Certificate) (first second : List ℕ) → Framed path → table_numbers ≤ length first → table_numbers ≤ length second
    → (f : Refused) → (check (bundle path) first second).0 ≡ Err f → First path f
first_at_fault path first second w l m f e = go (outcome path w) (sym (ap (λ (x : Left). x.0) (check_is (bundle path) first second l m)) ∙ e)
  where
    go : {o : Step (List Row × ℕ)} → Outcome [] path o → (leaves o first second).0 ≡ Err f → First path f
    go (Outcome.passes a) q = absurd (no_both q)
    go (Outcome.stops {f = g} s) q = let d : g ≡ f = cc in rw (← d) (stop_first path g s)

-- a refusal of another number is another
other : (r : Refusal) → (number_of r ≡ number_of refusal.NotHeld → ⊥) → r ≡ refusal.NotHeld → ⊥
other r n e = n (ap (λ (x : Refusal). number_of x) e)

-- the other faults have other refusals
missing_was : {c : Certificate} {line : List Certificate} {f : Refused} → Fault c line f → f.refusal ≡ refusal.NotHeld → Missing c line f.space (whole f.value)
missing_was (Fault.no_ip h) e = absurd (other refusal.IssuerLacks (omega arith) e)
missing_was (Fault.no_ids n h) e = absurd (other refusal.IssuerLacks (omega arith) e)
missing_was (Fault.no_space p h) e = absurd (other refusal.NothingToInherit (omega arith) e)
missing_was (Fault.too_many p i h) e = absurd (other refusal.RowCount (omega arith) e)
missing_was (Fault.not_held {s = s} {n = n} z p i l h) e = rw (whole_halves n) h

-- Where that is refusal 15, space and value are those of the smallest number that the certificate holds and its issuer does not.
pub smallest_missing : (path : List Certificate) (first second : List ℕ) → Framed path → table_numbers ≤ length first → table_numbers ≤ length second
    → (f : Refused) → (check (bundle path) first second).0 ≡ Err f → f.refusal ≡ refusal.NotHeld
    → (d : First path f) × Missing d.certificate (last d.above) f.space (whole f.value)
smallest_missing path first second w l m f e n = let d = first_at_fault path first second w l m f e in (d, missing_was d.fault n)
