-- Rows and families, both ways; and document 01, "The table", said of the families that the rows are. Theorems. Assumes nothing.
--     rows_grouped      the rows of the families that rows are: the same rows
--     grouped_rows      the families of the rows that families have: the same families
--     rows_valid, valid_rows      rows that a table may have are families that a value may have, and back
use mathlib.Core.Path.{◌≡◌, refl, sym, ap, subst, ◌∙◌}
use mathlib.Core.List.{List, [], ◌∷◌, ◌++◌}
use mathlib.Core.Bool.{Bool, true, false}
use mathlib.Core.Logic.{◌⊎◌, inl, inr}
use Prim.Native.Nat.{ℕ, ◌+◌, ◌≤◌, ◌<◌}
use native.Mathlib.Nat.{le_refl}
use native.Mathlib.Omega.{arith}
use lib.ListN.{length}
use lib.Pow.{pow_pos}
use lib.Dec.{eqb}
use borrow.Author.Tests.{eq-eqb, ne_eqb, eqb-true, eqb-false}
use Rattle.number.specs.Tests.{pick}
use Rattle.number.specs.Halves.{bits}
use Rattle.table.specs.Sizes.{max_rows}
use Rattle.table.specs.Spaces.{kind_of, width_of}
use Rattle.table.specs.Rows.{Row}
use Rattle.table.specs.Tables.{Sound, lists, inherits, Tidy, Fitting, Each, Allowed}
use Rattle.table.proofs.From.{Upto, earlier_space, same_space, on, begins, From, no_row, a_list, an_inherit, looser, tidy_from, from_tidy}
use Rattle.values.specs.Choices.{Choice, inherit, listed, listed_row, listed_rows, choice_rows}
use Rattle.values.specs.Tables.{blocks_rows}
use Rattle.values.specs.Encode.{joined, before, grouped}
use Rattle.values.proofs.laws.Statements.{Fits}
use Rattle.values.proofs.laws.Families.{Rising, Lists, Ordered, Valid}

-- ROWS, FAMILIES, ROWS

-- a mark is 0, or 1 with zeros
pub data Marked (r : Row) : Type 0 where
  zero_mark : r.inherit ≡ 0 → Marked r
  one_mark : r.inherit ≡ 1 → r.low ≡ 0 → r.high ≡ 0 → Marked r

-- a row before families is a row before theirs
before_rows : (a : ℕ) (x : ℕ × ℕ) (fs : List (ℕ × Choice)) → blocks_rows (before a x fs) ≡ listed_row a x ∷ blocks_rows fs
before_rows a x [] = refl
before_rows a x (f ∷ fs) = go f.0 f.1
  where
    same : (b : ℕ) (rs : List (ℕ × ℕ)) (t : Bool) → eqb a b ≡ t
        → blocks_rows (pick t ((a, listed (x ∷ rs)) ∷ fs) ((a, listed (x ∷ [])) ∷ (b, listed rs) ∷ fs)) ≡ listed_row a x ∷ (listed_rows b rs ++ blocks_rows fs)
    same b rs true e = subst (λ (z : ℕ). listed_row a x ∷ (listed_rows a rs ++ blocks_rows fs) ≡ listed_row a x ∷ (listed_rows z rs ++ blocks_rows fs)) (eqb-true a b e) refl
    same b rs false e = refl

    go : (b : ℕ) (c : Choice) → blocks_rows (joined a x b c fs) ≡ listed_row a x ∷ (choice_rows b c ++ blocks_rows fs)
    go b inherit = refl
    go b (listed rs) = same b rs (eqb a b) refl

-- so rows are those of their families
pub rows_grouped : {t : List Row} → Each Marked t → blocks_rows (grouped t) ≡ t
rows_grouped Each.none = refl
rows_grouped (Each.more {r = r} {rs = rs} (zero_mark e) h) = rw e (before_rows r.space (r.low, r.high) (grouped rs) ∙ rw (rows_grouped h))
rows_grouped (Each.more {r = r} {rs = rs} (one_mark e l k) h) = rw (e, l, k, rows_grouped h)

-- and those of a table have such marks
sound_marked : {r : Row} → Sound r → Marked r
sound_marked (lists e l) = zero_mark e
sound_marked (inherits e l h) = one_mark e l h

-- each of them
pub tidy_marked : {t : List Row} → Tidy t → Each Marked t
tidy_marked Tidy.none = Each.none
tidy_marked (Tidy.one s) = Each.more (sound_marked s) Each.none
tidy_marked (Tidy.more s f t) = Each.more (sound_marked s) (tidy_marked t)

-- FAMILIES, ROWS, FAMILIES

-- the first space is above a
abbrev Above : ℕ → List (ℕ × Choice) → Type 0
Above a [] = Unit {0}
Above a (f ∷ fs) = a < f.0

-- that is so of families after one
ordered_above : (kind a : ℕ) (fs : List (ℕ × Choice)) → Ordered kind (a + 1) fs → Above a fs
ordered_above kind a [] h = tt
ordered_above kind a (f ∷ fs) h = omega (arith, h.1)

-- the last row of a family begins it
last_row : (a : ℕ) (x : ℕ × ℕ) (fs : List (ℕ × Choice)) → Above a fs → before a x fs ≡ (a, listed (x ∷ [])) ∷ fs
last_row a x [] h = refl
last_row a x (f ∷ fs) h = go f.0 f.1 h
  where
    go : (b : ℕ) (c : Choice) → a < b → joined a x b c fs ≡ (a, listed (x ∷ [])) ∷ (b, c) ∷ fs
    go b inherit h = refl
    go b (listed rs) h = let n : a ≡ b → ⊥ = omega arith in rw (ne_eqb a b n)

-- and those before it join it
more_rows : (a : ℕ) (rs : List (ℕ × ℕ)) (t : List Row) (fs : List (ℕ × Choice)) → 0 < length rs → Above a fs → grouped t ≡ fs → grouped (listed_rows a rs ++ t) ≡ (a, listed rs) ∷ fs
more_rows a [] t fs l h e = absurd (omega arith)
more_rows a (x ∷ []) t fs l h e = rw e (last_row a x fs h)
more_rows a (x ∷ y ∷ rs) t fs l h e = rw (more_rows a (y ∷ rs) t fs (omega arith) h e, eq-eqb a a refl)

-- so families are those of their rows
pub grouped_rows : (kind least : ℕ) (fs : List (ℕ × Choice)) → Ordered kind least fs → grouped (blocks_rows fs) ≡ fs
grouped_rows kind least [] h = refl
grouped_rows kind least (f ∷ fs) h = go f.1 h.2 (grouped_rows kind (f.0 + 1) fs h.3)
  where
    go : (c : Choice) → Lists (bits (width_of f.0)) c → grouped (blocks_rows fs) ≡ fs → grouped (choice_rows f.0 c ++ blocks_rows fs) ≡ (f.0, c) ∷ fs
    go inherit o e = rw e
    go (listed rs) o e = more_rows f.0 rs (blocks_rows fs) fs o.0 (ordered_above kind f.0 fs h.3) e

-- WHERE FAMILIES AND ROWS BEGIN

-- the first family begins at number a of space s, or later
abbrev Starts : ℕ → ℕ → ℕ → Choice → Type 0
Starts s a b inherit = Upto s a b 0
Starts s a b (listed []) = ⊥
Starts s a b (listed (r ∷ rs)) = Upto s a b r.0

-- of families
abbrev Begins : ℕ → ℕ → List (ℕ × Choice) → Type 0
Begins s a [] = Unit {0}
Begins s a (f ∷ fs) = Starts s a f.0 f.1

-- it is not in an earlier space
upto_space : {s a t b : ℕ} → Upto s a t b → s ≤ t
upto_space (earlier_space p) = omega arith
upto_space (same_space p q) = omega arith

-- nor is the first family
starts_space : (s a b : ℕ) (c : Choice) → Starts s a b c → s ≤ b
starts_space s a b inherit u = upto_space u
starts_space s a b (listed []) u = absurd u
starts_space s a b (listed (r ∷ rs)) u = upto_space u

-- it is in a later space, if its number is lower
upto_later : {s a t b : ℕ} → Upto s a t b → b < a → s < t
upto_later (earlier_space p) l = p
upto_later (same_space p q) l = absurd (omega arith)

-- it is in a later space, if not in the same
upto_other : {s a t b : ℕ} → Upto s a t b → (s ≡ t → ⊥) → s < t
upto_other (earlier_space p) n = p
upto_other (same_space p q) n = absurd (n p)

-- and in the same it is not before
upto_same : {s a t b : ℕ} → Upto s a t b → s ≡ t → a ≤ b
upto_same (earlier_space p) e = absurd (omega arith)
upto_same (same_space p q) e = q

-- families may be said to begin earlier
begins_on : {s a t b : ℕ} (fs : List (ℕ × Choice)) → Upto s a t b → Begins t b fs → Begins s a fs
begins_on [] u h = tt
begins_on {s} {a} {t} {b} (f ∷ fs) u h = go f.0 f.1 h
  where
    go : (q : ℕ) (c : Choice) → Starts t b q c → Starts s a q c
    go q inherit h = on u (le_refl _) h
    go q (listed []) h = absurd h
    go q (listed (r ∷ rs)) h = on u (le_refl _) h

-- the rows of a list, before those of later spaces
list_from : (w s a : ℕ) (rs : List (ℕ × ℕ)) (t : List Row) → Rising w a rs → From (s + 1) 0 t → From s a (listed_rows s rs ++ t)
list_from w s a [] t h f = looser (earlier_space (omega arith)) f
list_from w s a (r ∷ rs) t h f = a_list refl (same_space refl h.1) h.0.order (list_from w s (r.1 + 2) rs t h.2 f)

-- where there is a row there is a family
rows_some : (t : List Row) (fs : List (ℕ × Choice)) → blocks_rows fs ≡ t → 0 < length t → 0 < length fs
rows_some t [] e l = absurd (omega (arith, ap length e))
rows_some t (f ∷ fs) e l = omega arith

-- A TABLE'S ROWS ARE A VALUE'S FAMILIES, AND BACK
module _ (kind : ℕ) where
  -- families that begin in a space or later
  begins_ordered : (s a : ℕ) (fs : List (ℕ × Choice)) → Ordered kind 0 fs → Begins s a fs → Ordered kind s fs
  begins_ordered s a [] h b = tt
  begins_ordered s a (f ∷ fs) h b = (h.0, starts_space s a f.0 f.1 b, h.2, h.3)

  -- a row of the space a before families that begin 2 past it, or later
  module _ (a : ℕ) (x : ℕ × ℕ) (own : kind_of a ≡ kind) (fits : Fits (bits (width_of a)) x) where
    -- as a family of its own
    alone : (fs : List (ℕ × Choice)) → Ordered kind (a + 1) fs → Ordered kind 0 ((a, listed (x ∷ [])) ∷ fs) × Begins a x.0 ((a, listed (x ∷ [])) ∷ fs)
    alone fs h = ((own, omega arith, (omega arith, (fits, omega arith, tt)), h), same_space refl (le_refl _))

    -- before a family of a later space
    later : (s : ℕ) (c : Choice) (fs : List (ℕ × Choice)) → a < s → Ordered kind 0 ((s, c) ∷ fs) → Ordered kind 0 ((a, listed (x ∷ [])) ∷ (s, c) ∷ fs) × Begins a x.0 ((a, listed (x ∷ [])) ∷ (s, c) ∷ fs)
    later s c fs l h = alone ((s, c) ∷ fs) (h.0, omega arith, h.2, h.3)

    -- or as the first of one
    joins : (s : ℕ) (r : ℕ × ℕ) (rs : List (ℕ × ℕ)) (fs : List (ℕ × Choice)) (t : Bool) → eqb a s ≡ t → Ordered kind 0 ((s, listed (r ∷ rs)) ∷ fs) → Upto a (x.1 + 2) s r.0
        → Ordered kind 0 (pick t ((a, listed (x ∷ r ∷ rs)) ∷ fs) ((a, listed (x ∷ [])) ∷ (s, listed (r ∷ rs)) ∷ fs))
        × Begins a x.0 (pick t ((a, listed (x ∷ r ∷ rs)) ∷ fs) ((a, listed (x ∷ [])) ∷ (s, listed (r ∷ rs)) ∷ fs))
    joins s r rs fs true e h u =
        let q : a ≡ s = eqb-true a s e in
        let (o, l, k, t) = subst (λ (z : ℕ). Ordered kind 0 ((z, listed (r ∷ rs)) ∷ fs)) (sym q) h in
        ((own, omega arith, (omega arith, (fits, omega arith, (k.1.0, upto_same u q, k.1.2))), t), same_space refl (le_refl _))
    joins s r rs fs false e h u = later s (listed (r ∷ rs)) fs (upto_other u (eqb-false a s e)) h

    -- so the families stay in order
    before_ordered : (fs : List (ℕ × Choice)) → Ordered kind 0 fs → Begins a (x.1 + 2) fs → Ordered kind 0 (before a x fs) × Begins a x.0 (before a x fs)
    before_ordered [] h b = alone [] tt
    before_ordered (f ∷ fs) h b = go f.0 f.1 h b
      where
        go : (s : ℕ) (c : Choice) → Ordered kind 0 ((s, c) ∷ fs) → Starts a (x.1 + 2) s c → Ordered kind 0 (joined a x s c fs) × Begins a x.0 (joined a x s c fs)
        go s inherit h b = later s inherit fs (upto_later b (omega arith)) h
        go s (listed []) h b = absurd b
        go s (listed (r ∷ rs)) h b = joins s r rs fs (eqb a s) refl h b

  module _ (one : kind ≡ 0 → ⊥) where
    -- a row of this kind
    own_kind : (r : Row) → Fitting kind r → kind_of r.space ≡ kind
    own_kind r g = go g.own
      where
        go : (kind ≡ 0) ⊎ (kind ≡ kind_of r.space) → kind_of r.space ≡ kind
        go (inl e) = absurd (one e)
        go (inr e) = sym e

    -- rows of a table are families in order
    from_ordered : {s a : ℕ} {t : List Row} → From s a t → Each (Fitting kind) t → Ordered kind 0 (grouped t) × Begins s a (grouped t)
    from_ordered no_row f = (tt, tt)
    from_ordered (a_list {r = r} {rs = rs} e u l h) (Each.more g f) =
        let (o, b) = from_ordered h f in
        let (p, q) = before_ordered r.space (r.low, r.high) (own_kind r g) (record { order = l; fits = g.fits }) (grouped rs) o b in
        rw e (p, begins_on (before r.space (r.low, r.high) (grouped rs)) u q)
    from_ordered (an_inherit {r = r} {rs = rs} e l k u h) (Each.more g f) =
        let (o, b) = from_ordered h f in
        rw e ((own_kind r g, omega arith, tt, begins_ordered (r.space + 1) 0 (grouped rs) o b), u)

    -- families in order are rows of a table
    ordered_from : (least : ℕ) (fs : List (ℕ × Choice)) → Ordered kind least fs → From least 0 (blocks_rows fs)
    ordered_from least [] h = no_row
    ordered_from least (f ∷ fs) h = looser (begins h.1) (go f.1 h.2 (ordered_from (f.0 + 1) fs h.3))
      where
        go : (c : Choice) → Lists (bits (width_of f.0)) c → From (f.0 + 1) 0 (blocks_rows fs) → From f.0 0 (choice_rows f.0 c ++ blocks_rows fs)
        go inherit o t = an_inherit refl refl refl (same_space refl (le_refl _)) t
        go (listed rs) o t = list_from (bits (width_of f.0)) f.0 0 rs (blocks_rows fs) o.1 t

    -- each fits
    list_fitting : (s a : ℕ) (rs : List (ℕ × ℕ)) (t : List Row) → kind_of s ≡ kind → Rising (bits (width_of s)) a rs → Each (Fitting kind) t → Each (Fitting kind) (listed_rows s rs ++ t)
    list_fitting s a [] t e h f = f
    list_fitting s a (r ∷ rs) t e h f = Each.more (record { known = λ q. one (sym e ∙ q); own = inr (sym e); fits = h.0.fits }) (list_fitting s (r.1 + 2) rs t e h.2 f)

    -- in all families
    ordered_fitting : (least : ℕ) (fs : List (ℕ × Choice)) → Ordered kind least fs → Each (Fitting kind) (blocks_rows fs)
    ordered_fitting least [] h = Each.none
    ordered_fitting least (f ∷ fs) h = go f.1 h.2 (ordered_fitting (f.0 + 1) fs h.3)
      where
        go : (c : Choice) → Lists (bits (width_of f.0)) c → Each (Fitting kind) (blocks_rows fs) → Each (Fitting kind) (choice_rows f.0 c ++ blocks_rows fs)
        go inherit o t = Each.more (record { known = λ q. one (sym h.0 ∙ q); own = inr (sym h.0); fits = pow_pos (bits (width_of f.0)) }) t
        go (listed rs) o t = list_fitting f.0 0 rs (blocks_rows fs) h.0 o.1 t

    -- where there is a family there is a row
    ordered_some : (least : ℕ) (fs : List (ℕ × Choice)) → Ordered kind least fs → 0 < length fs → 0 < length (blocks_rows fs)
    ordered_some least [] h l = absurd (omega arith)
    ordered_some least (f ∷ fs) h l = go f.1 h.2
      where
        go : (c : Choice) → Lists (bits (width_of f.0)) c → 0 < length (choice_rows f.0 c ++ blocks_rows fs)
        go inherit o = omega arith
        go (listed []) o = absurd (omega (arith, o.0))
        go (listed (r ∷ rs)) o = omega arith

    -- ROWS THAT A TABLE MAY HAVE ARE FAMILIES THAT A VALUE MAY HAVE, after n rows
    pub rows_valid : (n : ℕ) (t : List Row) → Allowed kind t → n + length t ≤ max_rows → Valid kind n (grouped t)
    rows_valid n t h l =
        let e = rows_grouped (tidy_marked h.tidy) in
        let (o, b) = from_ordered (tidy_from t h.tidy) h.fitting in
        record { ordered = o; few = rw e l; some = λ k. rows_some t (grouped t) e (h.some k) }

    -- and back
    pub valid_rows : (n : ℕ) (fs : List (ℕ × Choice)) → Valid kind n fs → Allowed kind (blocks_rows fs)
    valid_rows n fs v = record {
      tidy = from_tidy (blocks_rows fs) (ordered_from 0 fs v.ordered);
      fitting = ordered_fitting 0 fs v.ordered;
      few = omega (arith, v.few);
      some = λ k. ordered_some 0 fs v.ordered (v.some k);
    }
