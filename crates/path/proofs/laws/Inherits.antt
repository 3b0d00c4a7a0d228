-- Inheritance: the resolved rows hold what the certificate holds, they list, and they are tidy. Assumes nothing.
--     resolved_keeps    what a certificate holds is what its resolved rows hold, both ways
--     resolved_tidy     the resolved rows of tidy rows are tidy
--     resolved_lists    the resolved rows all list
use mathlib.Core.Path.{◌≡◌, refl, sym, ◌∙◌}
use mathlib.Core.List.{List, [], ◌∷◌, ◌++◌}
use mathlib.Core.Bool.{Bool, true, false}
use mathlib.Core.Logic.{◌⊎◌, inl, inr, ◌↔◌}
use Prim.Native.Nat.{ℕ, ◌+◌, zero-le}
use native.Mathlib.Nat.{le_refl}
use native.Mathlib.Omega.{arith}
use lib.Dec.{eqb}
use borrow.Author.Tests.{eqb-true, eqb-false}
use Rattle.number.specs.Tests.{pick}
use Rattle.table.specs.Rows.{Row}
use Rattle.table.specs.Tables.{Tidy, Each}
use Rattle.table.specs.Holdings.{Holds}
use Rattle.table.proofs.laws.Only.{none_held}
use Rattle.table.proofs.From.{Upto, earlier_space, same_space, on, From, no_row, a_list, an_inherit, looser, tidy_from, from_tidy}
use Rattle.path.specs.Inherit.{Keeps, listed, inherited, later, in_space, resolved}
use Rattle.path.proofs.laws.Walks.{AllListed}

-- what a test of a row's space, or of its mark, found
pub data Tested (x t : ℕ) : Bool → Type 0 where
  is : x ≡ t → Tested x t true
  is_not : (x ≡ t → ⊥) → Tested x t false

pub tested : (x t : ℕ) → Tested x t (eqb x t)
tested x t = go (eqb x t) refl
  where
    go : (b : Bool) → eqb x t ≡ b → Tested x t b
    go true e = is (eqb-true x t e)
    go false e = is_not (eqb-false x t e)

-- WHAT THE RESOLVED ROWS HOLD

module _ {s n : ℕ} (rest : List Row) where
  -- what the rows after some hold, all hold
  right : (rs : List Row) → Holds s n rest → Holds s n (rs ++ rest)
  right [] h = h
  right (r ∷ rs) h = Holds.there (right rs h)

  -- what rows hold in a space, those of that space hold
  into : (t : ℕ) → t ≡ s → (rs : List Row) → Holds s n rs → Holds s n (in_space t rs ++ rest)
  into t q [] h = absurd (none_held h)
  into t q (r ∷ rs) h = go (tested r.space t) h (λ k. into t q rs k)
    where
      go : {b : Bool} → Tested r.space t b → Holds s n (r ∷ rs) → (Holds s n rs → Holds s n (in_space t rs ++ rest)) → Holds s n (pick b (r ∷ in_space t rs) (in_space t rs) ++ rest)
      go (is e) (Holds.here k) f = Holds.here k
      go (is e) (Holds.there k) f = Holds.there (f k)
      go (is_not e) (Holds.here k) f = absurd (e (k.same ∙ sym q))
      go (is_not e) (Holds.there k) f = f k

  -- and the other way
  out : (t : ℕ) (rs : List Row) → Holds s n (in_space t rs ++ rest) → ((t ≡ s) × Holds s n rs) ⊎ Holds s n rest
  out t [] h = inr h
  out t (r ∷ rs) h = go (tested r.space t) h (λ k. out t rs k)
    where
      up : ((t ≡ s) × Holds s n rs) ⊎ Holds s n rest → ((t ≡ s) × Holds s n (r ∷ rs)) ⊎ Holds s n rest
      up (inl k) = inl (k.0, Holds.there k.1)
      up (inr k) = inr k

      go : {b : Bool} → Tested r.space t b → Holds s n (pick b (r ∷ in_space t rs) (in_space t rs) ++ rest) → (Holds s n (in_space t rs ++ rest) → ((t ≡ s) × Holds s n rs) ⊎ Holds s n rest)
          → ((t ≡ s) × Holds s n (r ∷ rs)) ⊎ Holds s n rest
      go (is e) (Holds.here k) f = inl (sym e ∙ k.same, Holds.here k)
      go (is e) (Holds.there k) f = up (f k)
      go (is_not e) k f = up (f k)

module _ (issuer : List Row) (s n : ℕ) where
  keeps_holds : (rows : List Row) → Keeps issuer s n rows → Holds s n (resolved issuer rows)
  keeps_holds [] k = elim k [ ]
  keeps_holds (r ∷ rs) k = go (tested r.inherit 1) k (λ j. keeps_holds rs j)
    where
      go : {b : Bool} → Tested r.inherit 1 b → Keeps issuer s n (r ∷ rs) → (Keeps issuer s n rs → Holds s n (resolved issuer rs))
          → Holds s n (pick b (in_space r.space issuer ++ resolved issuer rs) (r ∷ resolved issuer rs))
      go (is e) (listed h) f = absurd (omega arith)
      go (is e) (inherited i q h) f = into (resolved issuer rs) r.space q issuer h
      go (is e) (later j) f = right (resolved issuer rs) (in_space r.space issuer) (f j)
      go (is_not e) (listed h) f = Holds.here h
      go (is_not e) (inherited i q h) f = absurd (e i)
      go (is_not e) (later j) f = Holds.there (f j)

  holds_keeps : (rows : List Row) → Holds s n (resolved issuer rows) → Keeps issuer s n rows
  holds_keeps [] h = absurd (none_held h)
  holds_keeps (r ∷ rs) h = go (tested r.inherit 1) h (λ k. holds_keeps rs k)
    where
      from_issuer : r.inherit ≡ 1 → ((r.space ≡ s) × Holds s n issuer) ⊎ Holds s n (resolved issuer rs) → (Holds s n (resolved issuer rs) → Keeps issuer s n rs) → Keeps issuer s n (r ∷ rs)
      from_issuer e (inl k) f = inherited e k.0 k.1
      from_issuer e (inr k) f = later (f k)

      go : {b : Bool} → Tested r.inherit 1 b → Holds s n (pick b (in_space r.space issuer ++ resolved issuer rs) (r ∷ resolved issuer rs))
          → (Holds s n (resolved issuer rs) → Keeps issuer s n rs) → Keeps issuer s n (r ∷ rs)
      go (is e) h f = from_issuer e (out (resolved issuer rs) r.space issuer h) f
      go (is_not e) (Holds.here h) f = listed h
      go (is_not e) (Holds.there h) f = later (f h)

  pub resolved_keeps : (rows : List Row) → Keeps issuer s n rows ↔ Holds s n (resolved issuer rows)
  resolved_keeps rows = (keeps_holds rows, holds_keeps rows)

-- THEY LIST

-- "inherit mark (0 or 1)"
abbrev pub Marked : Row → Type 0
Marked r = (r.inherit ≡ 0) ⊎ (r.inherit ≡ 1)

-- tidy rows are so marked
pub tidy_marked : (rows : List Row) → Tidy rows → Each Marked rows
tidy_marked rows t = go (tidy_from rows t)
  where
    go : {s a : ℕ} {rs : List Row} → From s a rs → Each Marked rs
    go no_row = Each.none
    go (a_list e u l f) = Each.more (inl e) (go f)
    go (an_inherit e l h u f) = Each.more (inr e) (go f)

-- the rows of one space, and then others, list
lists_then : {rest : List Row} (t : ℕ) (rs : List Row) → AllListed rs → AllListed rest → AllListed (in_space t rs ++ rest)
lists_then t [] a l = l
lists_then {rest} t (r ∷ rs) (Each.more e a) l = go (tested r.space t) (lists_then t rs a l)
  where
    go : {b : Bool} → Tested r.space t b → AllListed (in_space t rs ++ rest) → AllListed (pick b (r ∷ in_space t rs) (in_space t rs) ++ rest)
    go (is q) k = Each.more e k
    go (is_not q) k = k

pub resolved_lists : (issuer rows : List Row) → AllListed issuer → Each Marked rows → AllListed (resolved issuer rows)
resolved_lists issuer [] a m = Each.none
resolved_lists issuer (r ∷ rs) a (Each.more m ms) = go (tested r.inherit 1) m (resolved_lists issuer rs a ms)
  where
    go : {b : Bool} → Tested r.inherit 1 b → Marked r → AllListed (resolved issuer rs) → AllListed (pick b (in_space r.space issuer ++ resolved issuer rs) (r ∷ resolved issuer rs))
    go (is e) m k = lists_then r.space issuer a k
    go (is_not e) (inl z) k = Each.more z k
    go (is_not e) (inr z) k = absurd (e z)

-- THEY ARE TIDY

module _ {t : ℕ} {rest : List Row} (z : From (t + 1) 0 rest) where
  -- the issuer's rows of the space, from a place within it
  inside : {c : ℕ} (rs : List Row) → AllListed rs → From t c rs → From t c (in_space t rs ++ rest)
  inside [] l y = looser (earlier_space (omega arith)) z
  inside {c} (r ∷ rs) (Each.more i l) (a_list e u o y) = go (tested r.space t) u (λ d k. inside rs l k)
    where
      go : {b : Bool} → Tested r.space t b → Upto t c r.space r.low → ((d : ℕ) → From t d rs → From t d (in_space t rs ++ rest)) → From t c (pick b (r ∷ in_space t rs) (in_space t rs) ++ rest)
      go (is q) u f = a_list e u o (looser (same_space q (le_refl _)) (f _ (looser (same_space (sym q) (le_refl _)) y)))
      go (is_not q) u f = f _ (looser (on u (omega arith) (same_space refl (le_refl _))) y)
  inside (r ∷ rs) (Each.more i l) (an_inherit e p q u y) = absurd (omega arith)

  -- from any place
  whole : {p b : ℕ} (rs : List Row) → AllListed rs → From p b rs → From t 0 (in_space t rs ++ rest)
  whole [] l y = looser (earlier_space (omega arith)) z
  whole {p = p} {b = b} (r ∷ rs) (Each.more i l) (a_list e u o y) = go (tested r.space t) (whole {p = r.space} {b = r.high + 2} rs l y)
    where
      go : {b : Bool} → Tested r.space t b → From t 0 (in_space t rs ++ rest) → From t 0 (pick b (r ∷ in_space t rs) (in_space t rs) ++ rest)
      go (is q) k = a_list e (same_space (sym q) zero-le) o (looser (same_space q (le_refl _)) (inside rs l (looser (same_space (sym q) (le_refl _)) y)))
      go (is_not q) k = k
  whole (r ∷ rs) (Each.more i l) (an_inherit e p q u y) = absurd (omega arith)

resolved_from : {s a : ℕ} (issuer rows : List Row) → Tidy issuer → AllListed issuer → From s a rows → From s a (resolved issuer rows)
resolved_from issuer [] t l f = no_row
resolved_from {s} {a} issuer (r ∷ rs) t l f = go (tested r.inherit 1) f (λ u b k. resolved_from issuer rs t l k)
  where
    go : {b : Bool} → Tested r.inherit 1 b → From s a (r ∷ rs) → ((u b : ℕ) → From u b rs → From u b (resolved issuer rs))
        → From s a (pick b (in_space r.space issuer ++ resolved issuer rs) (r ∷ resolved issuer rs))
    go (is e) (a_list i u o y) g = absurd (omega arith)
    go (is e) (an_inherit i p q u y) g = looser u (whole (g _ _ y) issuer l (tidy_from issuer t))
    go (is_not e) (a_list i u o y) g = a_list i u o (g _ _ y)
    go (is_not e) (an_inherit i p q u y) g = absurd (e i)

pub resolved_tidy : (issuer rows : List Row) → Tidy rows → Tidy issuer → AllListed issuer → Tidy (resolved issuer rows)
resolved_tidy issuer rows r t l = from_tidy (resolved issuer rows) (resolved_from issuer rows t l (tidy_from rows r))
