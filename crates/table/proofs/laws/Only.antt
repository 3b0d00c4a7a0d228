-- Two tidy lists of rows that hold the same numbers and inherit the same spaces are equal: a table is said in one way. Assumes nothing.
use mathlib.Core.Path.{◌≡◌, refl, sym, ap₂, ◌∙◌}
use mathlib.Core.List.{List, [], ◌∷◌}
use mathlib.Core.Logic.{◌⊎◌, inl, inr}
use Prim.Native.Nat.{ℕ, ◌+◌, ◌≤◌, ◌<◌}
use native.Mathlib.Nat.{le_refl}
use native.Mathlib.Omega.{arith}
use Rattle.number.proofs.Picks.{below}
use Rattle.table.specs.Rows.{Row}
use Rattle.table.specs.Tables.{Tidy}
use Rattle.table.specs.Holdings.{Has, Holds, Inherits}
use Rattle.table.proofs.From.{Upto, earlier_space, same_space, both, From, a_list, an_inherit, tidy_from, from, from_inherit, start}

-- whatever the rows a hold and inherit, the rows b do
record Within (a b : List Row) : Type 0 where
  keeps : (s n : ℕ) → Holds s n a → Holds s n b
  shares : (s : ℕ) → Inherits s a → Inherits s b

-- without rows nothing is held, and nothing inherited
pub none_held : {s n : ℕ} → Holds s n [] → ⊥
none_held h = elim h [ ]

none_inherited : {s : ℕ} → Inherits s [] → ⊥
none_inherited h = elim h [ ]

-- rows within no rows are none
empty : {s a : ℕ} {x : Row} {xs : List Row} → From s a (x ∷ xs) → Within (x ∷ xs) [] → ⊥
empty (a_list {r = x} e u l f) w = none_held (w.keeps x.space x.low (Holds.here (record { listed = e; same = refl; above = le_refl _; below = l })))
empty (an_inherit {r = x} e l h u f) w = none_inherited (w.shares x.space (Inherits.here e refl))

-- the other's first row is not after this one's
lead : {s a s' a' : ℕ} {x y : Row} {xs ys : List Row} → From s a (x ∷ xs) → From s' a' (y ∷ ys) → Within (x ∷ xs) (y ∷ ys) → Upto y.space y.low x.space x.low
lead (a_list {r = x} e u l f) g w = from (start g) (w.keeps x.space x.low (Holds.here (record { listed = e; same = refl; above = le_refl _; below = l })))
lead (an_inherit {r = x} e l h u f) g w = rw l (from_inherit (start g) (w.shares x.space (Inherits.here e refl)))

-- rows with equal fields
row_eq : (x y : Row) → x.space ≡ y.space → x.inherit ≡ y.inherit → x.low ≡ y.low → x.high ≡ y.high → x ≡ y
row_eq x y p q r s =
    ap₂ (λ (a b : ℕ). record { space = a; inherit = b; low = x.low; high = x.high }) p q
    ∙ ap₂ (λ (a b : ℕ). record { space = y.space; inherit = y.inherit; low = a; high = b }) r s

-- two rows of one space, each the first of its rows
module _ (x y : Row) (xs ys : List Row) (same : x.space ≡ y.space) where
  -- y does not inherit the space
  mixed : x.inherit ≡ 0 → From x.space (x.high + 2) xs → y.inherit ≡ 1 → Within (y ∷ ys) (x ∷ xs) → ⊥
  mixed e f i w = go (w.shares y.space (Inherits.here i refl))
    where
      beyond : Upto x.space (x.high + 2) y.space 0 → ⊥
      beyond (earlier_space p) = omega arith
      beyond (same_space p q) = omega arith

      go : Inherits y.space (x ∷ xs) → ⊥
      go (Inherits.here h q) = omega arith
      go (Inherits.there h) = beyond (from_inherit f h)

  -- y does not reach further than x
  reach : From x.space (x.high + 2) xs → y.inherit ≡ 0 → y.low ≤ x.high → Within (y ∷ ys) (x ∷ xs) → y.high ≤ x.high
  reach f i l w = go (below x.high y.high)
    where
      beyond : Upto x.space (x.high + 2) y.space (x.high + 1) → ⊥
      beyond (earlier_space p) = omega arith
      beyond (same_space p q) = omega arith

      held : Holds y.space (x.high + 1) (x ∷ xs) → ⊥
      held (Holds.here h) = omega arith
      held (Holds.there h) = beyond (from f h)

      go : (x.high < y.high) ⊎ (y.high ≤ x.high) → y.high ≤ x.high
      go (inl p) = absurd (held (w.keeps y.space (x.high + 1) (Holds.here (record { listed = i; same = refl; above = omega arith; below = omega arith }))))
      go (inr p) = p

  -- the rows after x are within those after y, where both list to the same high
  after_lists : From x.space (x.high + 2) xs → y.inherit ≡ 0 → x.high ≡ y.high → Within (x ∷ xs) (y ∷ ys) → Within xs ys
  after_lists f i e w = record { keeps = λ s n h. held s n (from f h) (w.keeps s n (Holds.there h)); shares = λ s h. shared s (w.shares s (Inherits.there h)) }
    where
      beyond : (s n : ℕ) → Has y s n → Upto x.space (x.high + 2) s n → ⊥
      beyond s n h (earlier_space p) = omega arith
      beyond s n h (same_space p q) = omega arith

      held : (s n : ℕ) → Upto x.space (x.high + 2) s n → Holds s n (y ∷ ys) → Holds s n ys
      held s n u (Holds.here h) = absurd (beyond s n h u)
      held s n u (Holds.there h) = h

      shared : (s : ℕ) → Inherits s (y ∷ ys) → Inherits s ys
      shared s (Inherits.here h q) = absurd (omega arith)
      shared s (Inherits.there h) = h

  -- and where both inherit
  after_inherits : From (x.space + 1) 0 xs → y.inherit ≡ 1 → Within (x ∷ xs) (y ∷ ys) → Within xs ys
  after_inherits f i w = record { keeps = λ s n h. held s n (w.keeps s n (Holds.there h)); shares = λ s h. shared s (from_inherit f h) (w.shares s (Inherits.there h)) }
    where
      held : (s n : ℕ) → Holds s n (y ∷ ys) → Holds s n ys
      held s n (Holds.here h) = absurd (omega arith)
      held s n (Holds.there h) = h

      beyond : (s : ℕ) → y.space ≡ s → Upto (x.space + 1) 0 s 0 → ⊥
      beyond s e (earlier_space p) = omega arith
      beyond s e (same_space p q) = omega arith

      shared : (s : ℕ) → Upto (x.space + 1) 0 s 0 → Inherits s (y ∷ ys) → Inherits s ys
      shared s u (Inherits.here h q) = absurd (beyond s q u)
      shared s u (Inherits.there h) = h

-- rows from any place, each within the other
only : (xs ys : List Row) {s a s' a' : ℕ} → From s a xs → From s' a' ys → Within xs ys → Within ys xs → xs ≡ ys
only [] [] f g w v = refl
only [] (y ∷ ys) f g w v = absurd (empty g v)
only (x ∷ xs) [] f g w v = absurd (empty f w)
only (x ∷ xs) (y ∷ ys) (a_list e u l f) (a_list i o k g) w v =
    let (p, q) = both (lead (a_list i o k g) (a_list e u l f) v) (lead (a_list e u l f) (a_list i o k g) w) in
    let r : y.high ≤ x.high = reach x y xs ys p f i (omega arith) v in
    let r' : x.high ≤ y.high = reach y x ys xs (sym p) g e (omega arith) w in
    let h : x.high ≡ y.high = omega arith in
    ap₂ (λ (z : Row) (zs : List Row). z ∷ zs) (row_eq x y p (e ∙ sym i) q h)
    (only xs ys f g (after_lists x y xs ys p f i h w) (after_lists y x ys xs (sym p) g e (sym h) v))
only (x ∷ xs) (y ∷ ys) (a_list e u l f) (an_inherit i m n o g) w v =
    let (p, q) = both (lead (an_inherit i m n o g) (a_list e u l f) v) (lead (a_list e u l f) (an_inherit i m n o g) w) in
    absurd (mixed x y xs ys p e f i v)
only (x ∷ xs) (y ∷ ys) (an_inherit e l k u f) (a_list i o m g) w v =
    let (p, q) = both (lead (an_inherit e l k u f) (a_list i o m g) w) (lead (a_list i o m g) (an_inherit e l k u f) v) in
    absurd (mixed y x ys xs p i g e w)
only (x ∷ xs) (y ∷ ys) (an_inherit e l k u f) (an_inherit i m n o g) w v =
    let (p, q) = both (lead (an_inherit i m n o g) (an_inherit e l k u f) v) (lead (an_inherit e l k u f) (an_inherit i m n o g) w) in
    ap₂ (λ (z : Row) (zs : List Row). z ∷ zs) (row_eq x y p (e ∙ sym i) q (k ∙ sym n))
    (only xs ys f g (after_inherits x y xs ys p f i w) (after_inherits y x ys xs (sym p) g e v))

-- THE LAW
pub only_table : {a b : List Row} → Tidy a → Tidy b → ((s n : ℕ) → Holds s n a → Holds s n b) → ((s n : ℕ) → Holds s n b → Holds s n a)
    → ((s : ℕ) → Inherits s a → Inherits s b) → ((s : ℕ) → Inherits s b → Inherits s a) → a ≡ b
only_table {a} {b} t u w v i j = only a b (tidy_from a t) (tidy_from b u) (record { keeps = w; shares = i }) (record { keeps = v; shares = j })
