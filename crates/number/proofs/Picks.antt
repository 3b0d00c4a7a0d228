-- Tests taken apart, and the parts of a list: what every floor hands to `search`. Theorems. Assumes nothing.
--     picks    a case of `pick` that was picked, by the test's fact
--     via      the same where the test is on a number that a call gave
--     pick_not, pick_is    the other way: which test a result came through
use mathlib.Core.Path.{◌≡◌, refl, sym, ◌∙◌}
use mathlib.Core.List.{List}
use mathlib.Core.Bool.{Bool, true, false}
use mathlib.Core.Logic.{◌⊎◌, inl, inr}
use Prim.Native.Nat.{ℕ, ◌-◌, ◌≤◌, ◌<◌}
use native.Mathlib.Nat.{le_of_eq}
use native.Mathlib.Omega.{arith}
use lib.ListN.{length, take, drop, length-drop}
use lib.Dec.{ltb, leb, eqb}
use lib.Seq.{take_all}
use borrow.Author.Tests.{ltb-true, ltb-false, le-ltb, lt-ltb, le-leb, lt-leb, eq-eqb, ne_eqb}
use Rattle.number.specs.Tests.{pick}

pub below : (a b : ℕ) → (a < b) ⊎ (b ≤ a)
below a b = go (ltb a b) refl
  where
    go : (t : Bool) → ltb a b ≡ t → (a < b) ⊎ (b ≤ a)
    go true e = inl (ltb-true a b e)
    go false e = inr (ltb-false a b e)

-- a case that was picked
pub pick_yes : {A : Type 0} (b : Bool) (r a z : A) → b ≡ true → r ≡ a → r ≡ pick b a z
pick_yes b r a z e p = rw e p

pub pick_no : {A : Type 0} (b : Bool) (r a z : A) → b ≡ false → r ≡ z → r ≡ pick b a z
pick_no b r a z e p = rw e p

-- a flag that a call gave
pub flag : {r b v : Bool} → r ≡ b → r ≡ v → b ≡ v
flag e p = sym e ∙ p

-- tests on a number x that a call gave, which the definition names by what the call said of it: on the right, and on the left
pub lt_via : {x : ℕ} (a b : ℕ) → x ≡ b → a < x → ltb a b ≡ true
lt_via {x} a b e p = lt-ltb a b (omega arith)

pub ge_via : {x : ℕ} (a b : ℕ) → x ≡ b → x ≤ a → ltb a b ≡ false
ge_via {x} a b e p = le-ltb a b (omega arith)

pub le_via : {x : ℕ} (a b : ℕ) → x ≡ b → a ≤ x → leb a b ≡ true
le_via {x} a b e p = le-leb a b (omega arith)

pub gt_via : {x : ℕ} (a b : ℕ) → x ≡ b → x < a → leb a b ≡ false
gt_via {x} a b e p = lt-leb a b (omega arith)

pub via_lt : {x : ℕ} (a b : ℕ) → x ≡ a → x < b → ltb a b ≡ true
via_lt {x} a b e p = lt-ltb a b (omega arith)

pub via_ge : {x : ℕ} (a b : ℕ) → x ≡ a → b ≤ x → ltb a b ≡ false
via_ge {x} a b e p = le-ltb a b (omega arith)

pub via_le : {x : ℕ} (a b : ℕ) → x ≡ a → x ≤ b → leb a b ≡ true
via_le {x} a b e p = le-leb a b (omega arith)

pub via_gt : {x : ℕ} (a b : ℕ) → x ≡ a → b < x → leb a b ≡ false
via_gt {x} a b e p = lt-leb a b (omega arith)

pub via_eq : {x : ℕ} (a b : ℕ) → x ≡ a → x ≡ b → eqb a b ≡ true
via_eq {x} a b e p = eq-eqb a b (omega arith)

pub via_ne : {x : ℕ} (a b : ℕ) → x ≡ a → (x ≡ b → ⊥) → eqb a b ≡ false
via_ne {x} a b e p = ne_eqb a b (λ q. p (omega arith))

pub ruleset picks = (pick_yes, pick_no, le-ltb, lt-ltb, le-leb, lt-leb, eq-eqb, ne_eqb)

pub ruleset via = (flag, lt_via, ge_via, le_via, gt_via, via_lt, via_ge, via_le, via_gt, via_eq, via_ne)

-- the case that was not the first one, and the one that was
pub pick_not : {A : Type 0} (b : Bool) (r a z : A) → (a ≡ r → ⊥) → pick b a z ≡ r → (b ≡ false) × (z ≡ r)
pick_not true r a z never e = absurd (never e)
pick_not false r a z never e = (refl, e)

pub pick_is : {A : Type 0} (b : Bool) (r a z : A) → (z ≡ r → ⊥) → pick b a z ≡ r → (b ≡ true) × (a ≡ r)
pick_is true r a z never e = (refl, e)
pick_is false r a z never e = absurd (never e)

-- `&s[k..]` is `take (length s - k) (drop k s)`
pub rest_of : {A : Type 0} (k : ℕ) (l : List A) → take (length l - k) (drop k l) ≡ drop k l
rest_of k l = take_all (length l - k) (drop k l) (le_of_eq (length-drop k l))
