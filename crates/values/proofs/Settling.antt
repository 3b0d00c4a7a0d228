-- What the readers answer and leave, by what was counted. Theorems. Assumes nothing.
--     tests_..    the tests before a value is read;   step_..   of a step;   alone_..   of a reader alone;   both_..   of both values
use mathlib.Core.Path.{◌≡◌, refl, sym, ap, ◌∙◌}
use mathlib.Core.List.{List}
use mathlib.Core.Bool.{Bool, true, false}
use Rattle.number.specs.Tests.{pick}
use Prim.Native.Nat.{ℕ, ◌≤◌, ◌<◌}
use native.Mathlib.Omega.{arith}
use lib.ListN.{length}
use lib.Dec.{ltb, eqb}
use borrow.Author.Tests.{lt-ltb, le-ltb, eq-eqb, ne_eqb}
use Rattle.number.specs.declared.refusal.Refusal.TheVariants as refusal
use Rattle.table.specs.Sizes.{table_numbers}
use Rattle.table.specs.Rows.{Row, cleared}
use Rattle.der.specs.Parts.{Contents, is, isnt}
use Rattle.values.specs.Faults.{Fault, at, Read}
use Rattle.values.specs.Limits.{max_octets}
use Rattle.values.specs.Tables.{tabled}
use Rattle.values.specs.Into.{Stands, CountedInto}
use Rattle.values.specs.Readings.{naming, Admission, admitted, admitted_alone, Left, refused_with, refused_at, answered, settled, step_of, step_ip, alone, on_as, step_both, read_both}
use Rattle.values.specs.declared.readings.Refused as refused
use Rattle.std.specs.Prelude.{Result, Ok, Err}
use Rattle.values.specs.Readings.{Reading}

-- zeros in the place of whatever was written
cleared_stands : (t t' : List ℕ) → Stands t t' → cleared table_numbers t' ≡ cleared table_numbers t
unfolding cleared
cleared_stands t t' h = rw (h.long, h.later)

-- the rows that were counted, or a refusal and zeros, are what the definition says
settle : {X : Type 0} (rows : X → List Row) (extension m n : ℕ) (t : List ℕ) (o : Contents X Fault) (c : Read ℕ) (t' : List ℕ)
    → CountedInto rows m n t o c t' → answered extension c t' ≡ settled extension n (tabled rows o) t
settle rows extension m n t (is x) c t' h = rw (h.0, h.1)
settle rows extension m n t (isnt f) c t' h = rw h.0 (ap (λ (y : List ℕ). (refused_at f.refusal extension f.place, y)) (cleared_stands t t' h.2))

-- the tests before a value is read: what follows them is l where they are passed
abbrev tested_then : ℕ → Bool → Bool → List ℕ → Left → Left
tested_then extension a b t l = pick a (refused_at refusal.TableShort 0 0, t) (pick b (refused_with extension (at 0 refusal.ValueSize) t) l)

module _ (extension : ℕ) (t w : List ℕ) (l : Left) (x : Result (Unit {0}) refused.Refused) (t' : List ℕ) where
  abbrev Tests : Bool → Bool → Type 0
  Tests a b = ◌≡◌ {A = Admission} (x, t') (pick a (Err (naming refusal.TableShort 0 0 0), t) (pick b (Err (naming refusal.ValueSize 0 extension 0), cleared table_numbers t) (Ok tt, w)))

  -- the two refusals
  err_so : (r f : refused.Refused) (u : List ℕ) → ◌≡◌ {A = Admission} (x, t') (Err f, u) → x ≡ Err r → ◌≡◌ {A = Left} (Err r, t') (Err f, u)
  err_so r f u p q =
      let e : ◌≡◌ {A = Result (Unit {0}) refused.Refused} (Err r) (Err f) = sym q ∙ ap (λ (z : Admission). z.0) p in
      let i : r ≡ f = cc in
      rw (i, ap (λ (z : Admission). z.1) p) refl

  -- one is not the other
  not_both : {r : refused.Refused} {C : Type 0} → ◌≡◌ {A = Result (Unit {0}) refused.Refused} (Ok tt) (Err r) → C
  not_both e = let z : ◌≡◌ {A = ℕ} 0 1 = cc in absurd (omega arith)

  tests_refused : (a b : Bool) (r : refused.Refused) → Tests a b → x ≡ Err r → ◌≡◌ {A = Left} (Err r, t') (tested_then extension a b t l)
  tests_refused true b r p q = err_so r _ _ p q
  tests_refused false true r p q = err_so r _ _ p q
  tests_refused false false r p q = not_both (sym (ap (λ (z : Admission). z.0) p) ∙ q)

  tests_passed : (a b : Bool) → Tests a b → x ≡ Ok tt → (t' ≡ w) × (l ≡ tested_then extension a b t l)
  tests_passed true b p q = not_both (sym q ∙ ap (λ (z : Admission). z.0) p)
  tests_passed false true p q = not_both (sym q ∙ ap (λ (z : Admission). z.0) p)
  tests_passed false false p q = (ap (λ (z : Admission). z.1) p, refl)

-- the exits of a step and of a reader alone, by what its tests answered
module _ (extension : ℕ) (v t : List ℕ) (x : Result (Unit {0}) refused.Refused) (t' : List ℕ) where
  pub step_refused : (n : ℕ) (rows : Contents (List Row) Fault) (r : refused.Refused) → ◌≡◌ {A = Admission} (x, t') (admitted extension v t) → x ≡ Err r → ◌≡◌ {A = Left} (Err r, t') (step_of extension n rows v t)
  step_refused n rows r = tests_refused extension t t (settled extension n rows t) x t' (ltb (length t) table_numbers) (ltb max_octets (length v)) r

  pub step_read : {X : Type 0} (rows : X → List Row) (n : ℕ) (o : Contents X Fault) (c : Read ℕ) (w : List ℕ) (l : Left) → ◌≡◌ {A = Admission} (x, t') (admitted extension v t) → x ≡ Ok tt
      → CountedInto rows (length v) n t' o c w → l ≡ answered extension c w → l ≡ step_of extension n (tabled rows o) v t
  step_read rows n o c w l p q i e =
      let (k, s) = tests_passed extension t t (settled extension n (tabled rows o) t) x t' (ltb (length t) table_numbers) (ltb max_octets (length v)) p q in
      e ∙ settle rows extension (length v) n t o c w (rw k at i) ∙ s

  pub alone_refused : (step : List ℕ → Left) (r : refused.Refused) → ◌≡◌ {A = Admission} (x, t') (admitted_alone extension v t) → x ≡ Err r → ◌≡◌ {A = Left} (Err r, t') (alone extension v step t)
  alone_refused step r = tests_refused extension t (cleared table_numbers t) (step (cleared table_numbers t)) x t' (ltb (length t) table_numbers) (eqb (length v) 0) r

  pub alone_step : (step : List ℕ → Left) (l : Left) → ◌≡◌ {A = Admission} (x, t') (admitted_alone extension v t) → x ≡ Ok tt → l ≡ step t' → l ≡ alone extension v step t
  alone_step step l p q e =
      let (k, s) = tests_passed extension t (cleared table_numbers t) (step (cleared table_numbers t)) x t' (ltb (length t) table_numbers) (eqb (length v) 0) p q in
      e ∙ ap step k ∙ s

-- both values
module _ (ip ids t : List ℕ) where
  pub both_short : (x : Reading) → length t < table_numbers → x ≡ refused_at refusal.TableShort 0 0 → ◌≡◌ {A = Left} (x, t) (read_both ip ids t)
  unfolding read_both
  both_short x h e = rw (lt-ltb (length t) table_numbers h, e)

  pub both_cleared : (x : Reading) (y t' : List ℕ) → table_numbers ≤ length t → t' ≡ cleared table_numbers t → ◌≡◌ {A = Left} (x, y) (step_both ip ids t') → ◌≡◌ {A = Left} (x, y) (read_both ip ids t)
  unfolding read_both
  both_cleared x y t' h u e = rw (le-ltb (length t) table_numbers h, ← u) e

  pub both_absent : (x : Reading) (y : List ℕ) → length ip ≡ 0 → ◌≡◌ {A = Left} (x, y) (on_as ids t (Ok 0)) → ◌≡◌ {A = Left} (x, y) (step_both ip ids t)
  unfolding step_both
  both_absent x y g e = rw (eq-eqb (length ip) 0 g) e

  module _ (z : Reading) (t' : List ℕ) (g : length ip ≡ 0 → ⊥) (i : ◌≡◌ {A = Left} (z, t') (step_ip ip t)) where
    opened : step_both ip ids t ≡ on_as ids t' z
    unfolding step_both
    opened = rw (ne_eqb (length ip) 0 g, ← i)

    pub both_refused : (f : refused.Refused) → z ≡ Err f → ◌≡◌ {A = Left} (z, t') (step_both ip ids t)
    both_refused f e = rw (opened, e)

    pub both_step : (n : ℕ) (x : Reading) (y : List ℕ) → z ≡ Ok n → ◌≡◌ {A = Left} (x, y) (on_as ids t' (Ok n)) → ◌≡◌ {A = Left} (x, y) (step_both ip ids t)
    both_step n x y e q = rw (opened, e) q
