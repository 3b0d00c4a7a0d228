-- What an answer of the code says of the definition's answer, and of the table. Theorems. Assumes nothing.
--     rows_on, count_on             rows, and then others.     Denied, Granted      a refusal, and what was read
--     chosen_bad, chosen_rows       by `ChosenInto`.     counted_bad, counted_rows     by `CountedInto`.      family_bad, family_rows      by `FamilyInto`
use mathlib.Core.Path.{◌≡◌, refl, sym, ap, ◌∙◌}
use mathlib.Core.List.{List, ◌++◌}
use Prim.Native.Nat.{ℕ, ◌+◌, ◌≤◌}
use native.Mathlib.Omega.{arith}
use lib.ListN.{length, drop, length-append}
use Rattle.table.specs.Rows.{Row, with_rows}
use Rattle.table.proofs.laws.Rows.{with_rows-append}
use Rattle.der.specs.Parts.{Contents, is, isnt, Part, part, nopart}
use Rattle.values.specs.Faults.{Fault}
use Rattle.values.specs.Choices.{Choice, choice_rows}
use Rattle.values.specs.Into.{Stands, CountedInto, ChosenInto, FamilyInto}
use Rattle.values.specs.Faults.{Read, Taken}
use Rattle.std.specs.Prelude.{Ok, Err}

-- rows, and then others
pub rows_on : (t : List ℕ) {t' t'' : List ℕ} (n : ℕ) {m : ℕ} (rs qs : List Row) → t' ≡ with_rows t n rs → m ≡ n + length rs → t'' ≡ with_rows t' m qs → t'' ≡ with_rows t n (rs ++ qs)
rows_on t n rs qs p e q = q ∙ rw (p, e) (sym (with_rows-append t n rs qs))

-- as many as both have
pub count_on : (n : ℕ) {m k : ℕ} (rs qs : List Row) → m ≡ n + length rs → k ≡ m + length qs → k ≡ n + length (rs ++ qs)
count_on n {m} {k} rs qs p q = omega (arith, length-append rs qs)

-- a refusal at q, and the table that stands
pub record Denied {X : Type 0} (m : ℕ) (o no : X) (q : ℕ) (t t' : List ℕ) : Type 0 where
  pub was : no ≡ o
  pub inside : q ≤ m
  pub stands : Stands t t'

-- x was read, so that there are m rows after n, and the table has them
pub record Granted {X O : Type 0} (rows : X → List Row) (made : X → O) (o : O) (n m : ℕ) (t t' : List ℕ) : Type 0 where
  pub read : X
  pub was : made read ≡ o
  pub count : m ≡ n + length (rows read)
  pub table : t' ≡ with_rows t n (rows read)
  pub stands : Stands t t'

module _ {X : Type 0} (rows : X → List Row) (m n : ℕ) (t t' : List ℕ) (r : Read ℕ) where
  pub counted_bad : (o : Contents X Fault) → CountedInto rows m n t o r t' → (f : Fault) → r ≡ Err f → Denied m o (isnt f) f.place t t'
  counted_bad (is x) (e, p, h) f u = let z : ◌≡◌ {A = ℕ} 0 1 = cc in absurd (omega arith)
  counted_bad (isnt g) (e, l, h) f u =
      let v : f ≡ g = cc in
      rw v (record { was = refl; inside = l; stands = h })

  pub counted_rows : (o : Contents X Fault) → CountedInto rows m n t o r t' → (k : ℕ) → r ≡ Ok k → Granted rows is o n k t t'
  counted_rows (is x) (e, p, h) k u = record { read = x; was = refl; count = cc; table = p; stands = h }
  counted_rows (isnt g) (e, l, h) k u = let z : ◌≡◌ {A = ℕ} 0 1 = cc in absurd (omega arith)

module _ (a : ℕ) (s : List ℕ) (n : ℕ) (t t' : List ℕ) (r : Taken ℕ) where
  pub chosen_bad : (o : Part Choice Fault) → ChosenInto a s n t o r t' → (f : Fault) → r ≡ Err f → Denied (length s) o (nopart f) f.place t t'
  chosen_bad (part c rest) h f u = let e = h.answer in let z : ◌≡◌ {A = ℕ} 0 1 = cc in absurd (omega arith)
  chosen_bad (nopart g) (e, l, h) f u =
      let v : f ≡ g = cc in
      rw v (record { was = refl; inside = l; stands = h })

  pub chosen_rows : (o : Part Choice Fault) → ChosenInto a s n t o r t' → (m j : ℕ) → r ≡ Ok (m, j) → Granted (choice_rows a) (λ c. part c (drop j s)) o n m t t' × (j ≤ length s)
  chosen_rows (part c rest) h m j u =
      let e : ◌≡◌ {A = ℕ × ℕ} (m, j) (n + length (choice_rows a c), h.end) = let q = h.answer in cc in
      let w : m ≡ n + length (choice_rows a c) = ap (λ (p : ℕ × ℕ). p.0) e in
      let v : j ≡ h.end = ap (λ (p : ℕ × ℕ). p.1) e in
      (record { read = c; was = rw (v, ← h.over); count = w; table = h.table; stands = h.stands }, rw v h.inside)
  chosen_rows (nopart g) (e, l, h) m j u = let z : ◌≡◌ {A = ℕ} 0 1 = cc in absurd (omega arith)

module _ (m n : ℕ) (t t' : List ℕ) (r : Read (ℕ × ℕ)) where
  pub family_bad : (o : Contents (ℕ × Choice) Fault) → FamilyInto m n t o r t' → (f : Fault) → r ≡ Err f → Denied m o (isnt f) f.place t t'
  family_bad (is x) (e, p, h, i) f u = let z : ◌≡◌ {A = ℕ} 0 1 = cc in absurd (omega arith)
  family_bad (isnt g) (e, l, h) f u =
      let v : f ≡ g = cc in
      rw v (record { was = refl; inside = l; stands = h })

  pub family_rows : (o : Contents (ℕ × Choice) Fault) → FamilyInto m n t o r t' → (a k : ℕ) → r ≡ Ok (a, k) → Granted (choice_rows a) (λ c. is (a, c)) o n k t t' × (a ≤ 4095)
  family_rows (is x) (e, l, p, h) a k u =
      let v : ◌≡◌ {A = ℕ × ℕ} (a, k) (x.0, n + length (choice_rows x.0 x.1)) = cc in
      let w : k ≡ n + length (choice_rows x.0 x.1) = ap (λ (p : ℕ × ℕ). p.1) v in
      let v : a ≡ x.0 = ap (λ (p : ℕ × ℕ). p.0) v in
      rw v (record { read = x.1; was = refl; count = w; table = p; stands = h }, l)
  family_rows (isnt g) (e, l, h) a k u = let z : ◌≡◌ {A = ℕ} 0 1 = cc in absurd (omega arith)
