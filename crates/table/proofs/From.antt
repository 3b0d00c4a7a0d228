-- Tidy rows by where they may begin, and what they hold by where it may lie. Assumes nothing.
--     Upto, Before       the order of numbers: space first, then number
--     on, back, both     it goes on, it does not go back, and both ways it is equality.      begins      a space begins with number 0
--     From s a rows      the rows are tidy and begin at number a of space s or later
--     tidy_from, from_tidy        the tidy rows are those from (0, 0).      looser      rows from a place are rows from any earlier one
--     from, from_inherit          what they hold, and what they inherit, is not before where they begin
--     start              they begin where their first row does
use mathlib.Core.Path.{◌≡◌, refl}
use mathlib.Core.List.{List, [], ◌∷◌}
use mathlib.Core.Logic.{◌⊎◌, inl, inr}
use Prim.Native.Nat.{ℕ, ◌+◌, ◌≤◌, ◌<◌}
use native.Mathlib.Nat.{le_refl, le_of_eq}
use native.Mathlib.Omega.{arith}
use Rattle.number.proofs.Picks.{below}
use Rattle.table.specs.Rows.{Row}
use Rattle.table.specs.Tables.{lists, inherits, Follows, by_space, by_gap, Tidy}
use Rattle.table.specs.Holdings.{Holds, Inherits}

-- THE ORDER

-- number a of space s is number b of space t, or comes before it
pub data Upto (s a t b : ℕ) : Type 0 where
  earlier_space : s < t → Upto s a t b
  same_space : s ≡ t → a ≤ b → Upto s a t b

-- it comes before it
abbrev pub Before : ℕ → ℕ → ℕ → ℕ → Type 0
Before s a t b = Upto s (a + 1) t b

-- it goes on: up to a place, and from there or later up to another
pub on : {s a t b c u d : ℕ} → Upto s a t b → b ≤ c → Upto t c u d → Upto s a u d
on (earlier_space p) h (earlier_space q) = earlier_space (omega arith)
on (earlier_space p) h (same_space q l) = earlier_space (omega arith)
on (same_space p k) h (earlier_space q) = earlier_space (omega arith)
on (same_space p k) h (same_space q l) = same_space (omega arith) (omega arith)

-- what comes before does not come after
pub back : {s a t b : ℕ} → Before s a t b → Upto t b s a → ⊥
back (earlier_space p) (earlier_space q) = omega arith
back (earlier_space p) (same_space q l) = omega arith
back (same_space p k) (earlier_space q) = omega arith
back (same_space p k) (same_space q l) = omega arith

-- each up to the other: they are the same
pub both : {s a t b : ℕ} → Upto s a t b → Upto t b s a → (s ≡ t) × (a ≡ b)
both (earlier_space p) (earlier_space q) = absurd (omega arith)
both (earlier_space p) (same_space q l) = absurd (omega arith)
both (same_space p k) (earlier_space q) = absurd (omega arith)
both (same_space p k) (same_space q l) = (omega arith, omega arith)

-- a space begins at or before whatever is in it or in a later one
pub begins : {s t b : ℕ} → s ≤ t → Upto s 0 t b
begins {s} {t} {b} h = go (below s t)
  where
    go : (s < t) ⊎ (t ≤ s) → Upto s 0 t b
    go (inl p) = earlier_space p
    go (inr p) = same_space (omega arith) (omega arith)

-- what is not before the next space is not before this one
pub past_space : {s t b : ℕ} → Upto (s + 1) 0 t b → Upto s 0 t b
past_space (earlier_space p) = earlier_space (omega arith)
past_space (same_space p q) = earlier_space (omega arith)

-- ROWS FROM A PLACE

-- after a listed row the next one may begin 2 past its high, after an inherit row in the next space
pub data From : ℕ → ℕ → List Row → Type 0 where
  no_row : {s a : ℕ} → From s a []
  a_list : {s a : ℕ} {r : Row} {rs : List Row} → r.inherit ≡ 0 → Upto s a r.space r.low → r.low ≤ r.high → From r.space (r.high + 2) rs → From s a (r ∷ rs)
  an_inherit : {s a : ℕ} {r : Row} {rs : List Row} → r.inherit ≡ 1 → r.low ≡ 0 → r.high ≡ 0 → Upto s a r.space 0 → From (r.space + 1) 0 rs → From s a (r ∷ rs)

-- rows from a place are rows from any earlier one
pub looser : {s a t b : ℕ} {rs : List Row} → Upto s a t b → From t b rs → From s a rs
looser u no_row = no_row
looser u (a_list e v l f) = a_list e (on u (le_refl _) v) l f
looser u (an_inherit e l h v f) = an_inherit e l h (on u (le_refl _) v) f

-- what is tidy, from where its first row begins
tidy_on : {s a : ℕ} {r : Row} {rs : List Row} → Upto s a r.space r.low → Tidy (r ∷ rs) → From s a (r ∷ rs)
tidy_on u (Tidy.one (lists e l)) = a_list e u l no_row
tidy_on u (Tidy.one (inherits e l h)) = an_inherit e l h (rw l at u) no_row
tidy_on {s = s} {a = a} u (Tidy.more {a = r} (lists e l) (by_space f) t) = a_list e u l (tidy_on {s = r.space} {a = r.high + 2} (earlier_space f) t)
tidy_on {s = s} {a = a} u (Tidy.more {a = r} (lists e l) (by_gap f i j g) t) = a_list e u l (tidy_on {s = r.space} {a = r.high + 2} (same_space f (omega arith)) t)
tidy_on {s = s} {a = a} u (Tidy.more {a = r} (inherits e l h) (by_space f) t) = an_inherit e l h (rw l at u) (tidy_on {s = r.space + 1} {a = 0} (begins (omega arith)) t)
tidy_on u (Tidy.more (inherits e l h) (by_gap f i j g) t) = absurd (omega arith)

-- tidy rows are rows from number 0 of space 0
pub tidy_from : (rows : List Row) → Tidy rows → From 0 0 rows
tidy_from [] t = no_row
tidy_from (r ∷ rs) t = tidy_on (begins (omega arith)) t

-- a row that may begin after a listed one follows it
after_list : {a b : Row} {rs : List Row} → a.inherit ≡ 0 → From a.space (a.high + 2) (b ∷ rs) → Follows a b
after_list e (a_list f (earlier_space p) l t) = by_space p
after_list e (a_list f (same_space p q) l t) = by_gap p e f (omega arith)
after_list e (an_inherit f l h (earlier_space p) t) = by_space p
after_list e (an_inherit f l h (same_space p q) t) = absurd (omega arith)

-- a row that may begin after an inherit row follows it
after_inherit : {a b : Row} {rs : List Row} → From (a.space + 1) 0 (b ∷ rs) → Follows a b
after_inherit (a_list f (earlier_space p) l t) = by_space (omega arith)
after_inherit (a_list f (same_space p q) l t) = by_space (omega arith)
after_inherit (an_inherit f l h (earlier_space p) t) = by_space (omega arith)
after_inherit (an_inherit f l h (same_space p q) t) = by_space (omega arith)

-- rows from any place are tidy
pub from_tidy : {s a : ℕ} (rows : List Row) → From s a rows → Tidy rows
from_tidy [] f = Tidy.none
from_tidy (r ∷ []) (a_list e u l f) = Tidy.one (lists e l)
from_tidy (r ∷ []) (an_inherit e l h u f) = Tidy.one (inherits e l h)
from_tidy {s = s} {a = a} (r ∷ q ∷ rs) (a_list e u l f) = Tidy.more (lists e l) (after_list e f) (from_tidy {s = r.space} {a = r.high + 2} (q ∷ rs) f)
from_tidy {s = s} {a = a} (r ∷ q ∷ rs) (an_inherit e l h u f) = Tidy.more (inherits e l h) (after_inherit f) (from_tidy {s = r.space + 1} {a = 0} (q ∷ rs) f)

-- WHAT THEY HOLD

-- a number that they hold is not before where they begin
pub from : {s a t n : ℕ} {rs : List Row} → From s a rs → Holds t n rs → Upto s a t n
from no_row h = elim h [ ]
from (a_list e u l f) (Holds.here h) = on u h.above (same_space h.same (le_refl _))
from (a_list e u l f) (Holds.there h) = on u (omega arith) (from f h)
from (an_inherit e l k u f) (Holds.here h) = absurd (omega arith)
from (an_inherit e l k u f) (Holds.there h) = on u (le_refl _) (past_space (from f h))

-- a space that they inherit is not before where they begin
pub from_inherit : {s a t : ℕ} {rs : List Row} → From s a rs → Inherits t rs → Upto s a t 0
from_inherit no_row h = elim h [ ]
from_inherit (a_list e u l f) (Inherits.here h q) = absurd (omega arith)
from_inherit (a_list e u l f) (Inherits.there h) = on u (omega arith) (from_inherit f h)
from_inherit (an_inherit e l k u f) (Inherits.here h q) = on u (le_refl _) (same_space q (le_refl _))
from_inherit (an_inherit e l k u f) (Inherits.there h) = on u (le_refl _) (past_space (from_inherit f h))

-- they begin where their first row does
pub start : {s a : ℕ} {r : Row} {rs : List Row} → From s a (r ∷ rs) → From r.space r.low (r ∷ rs)
start (a_list e u l f) = a_list e (same_space refl (le_refl _)) l f
start (an_inherit e l h u f) = an_inherit e l h (same_space refl (le_of_eq l)) f
