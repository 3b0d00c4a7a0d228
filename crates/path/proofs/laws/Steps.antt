-- The steps of the walk as a relation: what held at each step. The theorems on the walk go by cases on them. Assumes nothing.
--     Within, Beyond    how an own row lies to an issuer's row
--     Steps             the walk of own and issuer's rows ends with this result after so many pairs
--     steps             the walk takes such steps
use mathlib.Core.Path.{◌≡◌, refl}
use mathlib.Core.List.{List, [], ◌∷◌}
use mathlib.Core.Bool.{Bool, true, false}
use Prim.Native.Nat.{ℕ, suc, ◌+◌, ◌≤◌, ◌<◌}
use native.Mathlib.Omega.{arith}
use lib.Dec.{ltb, leb, eqb}
use borrow.Author.Tests.{ltb-true, ltb-false, leb-true, leb-false, eqb-true, eqb-false}
use Rattle.number.specs.Tests.{pick}
use Rattle.table.specs.Rows.{Row}
use Rattle.table.proofs.From.{earlier_space, same_space, Before}
use Rattle.path.specs.Walk.{Result, covered, missing, Walked, within, passed, gap, counted, stopped, against, walk}

-- o lies within i
pub record Within (o i : Row) : Type 0 where
  pub same : o.space ≡ i.space
  pub low : i.low ≤ o.low
  pub high : o.high ≤ i.high

-- o begins in i and ends after it
pub record Beyond (o i : Row) : Type 0 where
  pub same : o.space ≡ i.space
  pub low : i.low ≤ o.low
  pub reach : o.low ≤ i.high
  pub high : i.high < o.high

-- from a test to its fact
ruleset tests = (ltb-true, ltb-false, leb-true, leb-false, eqb-true, eqb-false)

-- how two rows can meet, with what the tests of the walk give
data Meets (o i : Row) : Bool → Bool → ℕ → Type 0 where
  lies_within : {t : Bool} {n : ℕ} → Within o i → Meets o i true t n
  is_passed : {n : ℕ} → Before i.space i.high o.space o.low → Meets o i false true n
  is_ahead : Before o.space o.low i.space i.low → Meets o i false false o.low
  goes_beyond : Beyond o i → Meets o i false false (i.high + 1)

-- by the five tests of the definitions
meets : (o i : Row) → Meets o i (within o i) (passed o i) (gap o i)
meets o i = go (eqb o.space i.space) refl (leb i.low o.low) refl (leb o.high i.high) refl (ltb i.high o.low) refl (ltb i.space o.space) refl
  where
    go : (a : Bool) → eqb o.space i.space ≡ a → (b : Bool) → leb i.low o.low ≡ b → (c : Bool) → leb o.high i.high ≡ c
        → (d : Bool) → ltb i.high o.low ≡ d → (e : Bool) → ltb i.space o.space ≡ e
        → Meets o i (pick a (pick b c false) false) (pick a d e) (pick a (pick b (i.high + 1) o.low) o.low)
    go true p true q true r d s e t = lies_within (omega (arith, tests))
    go true p true q false r true s e t = is_passed (same_space (omega (arith, tests)) (omega (arith, tests)))
    go true p true q false r false s e t = goes_beyond (omega (arith, tests))
    go true p false q c r true s e t = is_passed (same_space (omega (arith, tests)) (omega (arith, tests)))
    go true p false q c r false s e t = is_ahead (same_space (omega (arith, tests)) (omega (arith, tests)))
    go false p b q c r d s true t = is_passed (earlier_space (omega (arith, tests)))
    go false p b q c r d s false t = is_ahead (earlier_space (omega (arith, tests)))

-- THE STEPS

pub data Steps : List Row → List Row → Result → ℕ → Type 0 where
  done : {is : List Row} → Steps [] is covered 0
  used_up : {o : Row} {os : List Row} → Steps (o ∷ os) [] (missing o.space o.low) 0
  inside : {o i : Row} {os is : List Row} {r : Result} {k : ℕ} → Within o i → Steps os (i ∷ is) r k → Steps (o ∷ os) (i ∷ is) r (suc k)
  skip : {o i : Row} {os is : List Row} {r : Result} {k : ℕ} → Before i.space i.high o.space o.low → Steps (o ∷ os) is r k → Steps (o ∷ os) (i ∷ is) r (suc k)
  ahead : {o i : Row} {os is : List Row} → Before o.space o.low i.space i.low → Steps (o ∷ os) (i ∷ is) (missing o.space o.low) 1
  beyond : {o i : Row} {os is : List Row} → Beyond o i → Steps (o ∷ os) (i ∷ is) (missing o.space (i.high + 1)) 1

abbrev Takes : List Row → List Row → Walked → Type 0
Takes own issuer w = Steps own issuer w.result w.pairs

-- one step, by how the first rows meet
step : {o i : Row} {os is : List Row} {t u : Bool} {n : ℕ} {v w : Walked} → Meets o i t u n → Takes os (i ∷ is) v → Takes (o ∷ os) is w
    → Takes (o ∷ os) (i ∷ is) (pick t (counted v) (pick u (counted w) (stopped o n 1)))
step (lies_within m) f g = inside m f
step (is_passed m) f g = skip m g
step (is_ahead m) f g = ahead m
step (goes_beyond m) f g = beyond m

steps_against : (o : Row) (os : List Row) → ((issuer : List Row) → Takes os issuer (walk os issuer)) → (issuer : List Row) → Takes (o ∷ os) issuer (against o (walk os) issuer)
unfolding against
steps_against o os f [] = used_up
steps_against o os f (i ∷ is) = step (meets o i) (f (i ∷ is)) (steps_against o os f is)

pub steps : (own issuer : List Row) → Takes own issuer (walk own issuer)
unfolding walk
steps [] issuer = done
steps (o ∷ os) issuer = steps_against o os (steps os) issuer
