-- Inheritance of rows one after another, and of one row by itself. Assumes nothing.
--     in_space-append, resolved-append, lacking-append    of some rows, and then others
--     resolved_last, lacking_last     of some rows, and then one
--     space_yes, space_no             the rows of a space with one row more that was read
--     few_in_space, few_replaced      a row is replaced by at most as many as the issuer has, or by itself
--     no_fewer                        where no space is lacking, no row goes without a row
use mathlib.Core.Path.{◌≡◌, refl, sym, ap, ◌∙◌}
use mathlib.Core.List.{List, [], ◌∷◌, ◌++◌, append_assoc, append-nil}
use mathlib.Core.Bool.{Bool, true, false}
use Prim.Native.Nat.{ℕ, suc, ◌+◌, ◌≤◌, ◌<◌}
use native.Mathlib.Omega.{arith}
use lib.ListN.{length, length-append}
use lib.Dec.{eqb}
use borrow.Author.Tests.{eq-eqb, ne_eqb}
use Rattle.number.specs.Tests.{pick}
use Rattle.table.specs.Rows.{Row, seen, in_halves, room, row_at, rows_of}
use Rattle.table.specs.declared.rows.Row as code
use Rattle.table.proofs.Columns.{row_code}
use Rattle.table.proofs.laws.Rows.{rows_read}
use Rattle.path.specs.Inherit.{in_space, resolved, Spaces, all, lacks, or_lacks, lacking, replaced}

-- THE ROWS OF A SPACE

pub in_space-append : (s : ℕ) (xs ys : List Row) → in_space s (xs ++ ys) ≡ in_space s xs ++ in_space s ys
in_space-append s [] ys = refl
in_space-append s (x ∷ xs) ys = go (eqb x.space s) (in_space-append s xs ys)
  where
    go : (b : Bool) → in_space s (xs ++ ys) ≡ in_space s xs ++ in_space s ys → pick b (x ∷ in_space s (xs ++ ys)) (in_space s (xs ++ ys)) ≡ pick b (x ∷ in_space s xs) (in_space s xs) ++ in_space s ys
    go true e = ap (λ (rs : List Row). x ∷ rs) e
    go false e = e

-- they are at most all
pub few_in_space : (s : ℕ) (xs : List Row) → length (in_space s xs) ≤ length xs
few_in_space s [] = omega arith
few_in_space s (x ∷ xs) = go (eqb x.space s) (few_in_space s xs)
  where
    go : (b : Bool) → length (in_space s xs) ≤ length xs → length (pick b (x ∷ in_space s xs) (in_space s xs)) ≤ suc (length xs)
    go true h = omega arith
    go false h = omega arith

-- one row more that was read
module _ (k : ℕ) (t : List ℕ) (row : code.Row) (h : k < room t) (e : row ≡ in_halves (row_at t k)) where
  pub rows_got : rows_of (k + 1) t ≡ rows_of k t ++ (seen row ∷ [])
  rows_got = rows_read k t h ∙ ap (λ (r : Row). rows_of k t ++ (r ∷ [])) (sym (ap (λ (r : code.Row). seen r) e ∙ row_code (row_at t k)))

  module _ (s : ℕ) where
    got_in : in_space s (rows_of (k + 1) t) ≡ in_space s (rows_of k t) ++ in_space s (seen row ∷ [])
    got_in = ap (λ (rs : List Row). in_space s rs) rows_got ∙ in_space-append s (rows_of k t) (seen row ∷ [])

    -- it is of the space, or it is not
    pub space_yes : row.space ≡ s → in_space s (rows_of (k + 1) t) ≡ in_space s (rows_of k t) ++ (seen row ∷ [])
    space_yes y = got_in ∙ rw (eq-eqb row.space s y)

    pub space_no : (row.space ≡ s → ⊥) → in_space s (rows_of (k + 1) t) ≡ in_space s (rows_of k t)
    space_no n = got_in ∙ rw (ne_eqb row.space s n) (append-nil (in_space s (rows_of k t)))

-- THE ROWS AFTER INHERITANCE

-- the first that is lacking
abbrev pub first_of : Spaces → Spaces → Spaces
first_of (lacks t) later = lacks t
first_of all later = later

module _ (issuer : List Row) where
  -- the first row, and the others
  resolved_row : (r : Row) (rs : List Row) → resolved issuer (r ∷ rs) ≡ replaced issuer r ++ resolved issuer rs
  resolved_row r rs = go (eqb r.inherit 1)
    where
      go : (b : Bool) → pick b (in_space r.space issuer ++ resolved issuer rs) (r ∷ resolved issuer rs) ≡ pick b (in_space r.space issuer) (r ∷ []) ++ resolved issuer rs
      go true = refl
      go false = refl

  lacking_row : (r : Row) (rs : List Row) → lacking issuer (r ∷ rs) ≡ or_lacks r.space (replaced issuer r) (lacking issuer rs)
  lacking_row r rs = go (eqb r.inherit 1)
    where
      go : (b : Bool) → pick b (or_lacks r.space (in_space r.space issuer) (lacking issuer rs)) (lacking issuer rs) ≡ or_lacks r.space (pick b (in_space r.space issuer) (r ∷ [])) (lacking issuer rs)
      go true = refl
      go false = refl

  pub resolved-append : (xs ys : List Row) → resolved issuer (xs ++ ys) ≡ resolved issuer xs ++ resolved issuer ys
  resolved-append [] ys = refl
  resolved-append (x ∷ xs) ys =
      resolved_row x (xs ++ ys)
      ∙ ap (λ (rs : List Row). replaced issuer x ++ rs) (resolved-append xs ys)
      ∙ sym (append_assoc (replaced issuer x) (resolved issuer xs) (resolved issuer ys))
      ∙ ap (λ (rs : List Row). rs ++ resolved issuer ys) (sym (resolved_row x xs))

  pub lacking-append : (xs ys : List Row) → lacking issuer (xs ++ ys) ≡ first_of (lacking issuer xs) (lacking issuer ys)
  lacking-append [] ys = refl
  lacking-append (x ∷ xs) ys =
      lacking_row x (xs ++ ys) ∙ go (replaced issuer x) (lacking-append xs ys) ∙ ap (λ (s : Spaces). first_of s (lacking issuer ys)) (sym (lacking_row x xs))
    where
      go : (rs : List Row) → lacking issuer (xs ++ ys) ≡ first_of (lacking issuer xs) (lacking issuer ys) → or_lacks x.space rs (lacking issuer (xs ++ ys)) ≡ first_of (or_lacks x.space rs (lacking issuer xs)) (lacking issuer ys)
      go [] e = refl
      go (r ∷ rs) e = e

  -- some rows, and then one
  pub resolved_last : (xs : List Row) (r : Row) → resolved issuer (xs ++ (r ∷ [])) ≡ resolved issuer xs ++ replaced issuer r
  resolved_last xs r = resolved-append xs (r ∷ []) ∙ ap (λ (rs : List Row). resolved issuer xs ++ rs) (resolved_row r [] ∙ append-nil (replaced issuer r))

  pub lacking_last : (xs : List Row) (r : Row) → lacking issuer (xs ++ (r ∷ [])) ≡ first_of (lacking issuer xs) (or_lacks r.space (replaced issuer r) all)
  lacking_last xs r = lacking-append xs (r ∷ []) ∙ ap (λ (s : Spaces). first_of (lacking issuer xs) s) (lacking_row r [])

  -- a row is replaced by itself, or by at most all
  pub few_replaced : (r : Row) → length (replaced issuer r) ≤ length issuer + 1
  few_replaced r = go (eqb r.inherit 1)
    where
      go : (b : Bool) → length (pick b (in_space r.space issuer) (r ∷ [])) ≤ length issuer + 1
      go true = omega (arith, few_in_space r.space issuer)
      go false = omega arith

  -- where no space is lacking, each row is at least one
  pub no_fewer : (xs : List Row) → lacking issuer xs ≡ all → length xs ≤ length (resolved issuer xs)
  no_fewer [] e = omega arith
  no_fewer (x ∷ xs) e = rw (resolved_row x xs, length-append) (go (replaced issuer x) (sym (lacking_row x xs) ∙ e) (no_fewer xs))
    where
      go : (rs : List Row) → or_lacks x.space rs (lacking issuer xs) ≡ all → (lacking issuer xs ≡ all → length xs ≤ length (resolved issuer xs)) → suc (length xs) ≤ length rs + length (resolved issuer xs)
      go [] q h = let z : ◌≡◌ {A = ℕ} 0 1 = cc in omega arith
      go (r ∷ rs) q h = omega (arith, h q)
