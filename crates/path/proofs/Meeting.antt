-- How an own row and an issuer's row meet: what `how` returns at each of its ways out. Assumes nothing.
use mathlib.Core.Path.{◌≡◌, refl, sym, ap, ap₂, ◌∙◌}
use mathlib.Core.Bool.{Bool, true, false}
use Prim.Native.Nat.{ℕ, ◌<◌, ◌≤◌, ◌^◌}
use native.Mathlib.Omega.{arith}
use lib.Dec.{ltb, leb, eqb}
use borrow.Author.Tests.{ltb-true, ltb-false, le-leb, lt-leb, lt-ltb, le-ltb, eq-eqb, ne_eqb}
use Rattle.number.specs.Tests.{pick}
use Rattle.number.specs.Halves.{whole, halves, next}
use Rattle.number.specs.declared.halves.Halves.{Halves}
use Rattle.number.proofs.TwoHalves.{whole_halves, next_below, whole_below}
use Rattle.table.specs.Rows.{Row}
use Rattle.path.specs.Walk.{meet_of}
use Rattle.path.specs.declared.walks.Meet.TheVariants as meet

-- the number of two halves that a call gave
number : {a : Halves} (m : ℕ) → a ≡ halves m → whole a ≡ m
number m p = ap (λ (h : Halves). whole h) p ∙ whole_halves m

-- what a test of two of them says of the numbers
told : {a b : Halves} {t v : Bool} (m n : ℕ) → a ≡ halves m → b ≡ halves n → t ≡ ltb (whole a) (whole b) → t ≡ v → ltb m n ≡ v
told m n p q e f = sym (ap₂ (λ (x y : ℕ). ltb x y) (number m p) (number n q)) ∙ sym e ∙ f

-- the same test the other way round
not_below_lem : (m n : ℕ) → ltb m n ≡ false → leb n m ≡ true
not_below_lem m n e = le-leb n m (ltb-false m n e)

is_below : (m n : ℕ) → ltb m n ≡ true → leb n m ≡ false
is_below m n e = lt-leb n m (ltb-true m n e)

-- whatever the test
neither : (b : Bool) → pick b false false ≡ false
neither true = refl
neither false = refl

module _ (o i : Row) {s h : ℕ} {low : Halves} (p : s ≡ o.space) (a : low ≡ halves o.low) (q : h ≡ i.space) where
  -- in one space: by where the issuer's row ends, and the tests that were made
  module _ (e : s ≡ h) {end : Halves} (b : end ≡ halves i.high) where
    same_space : eqb o.space i.space ≡ true
    same_space = eq-eqb o.space i.space (sym p ∙ e ∙ q)

    -- the own row begins at or after the issuer's, and ends at or before it
    pub meet_within : {begin high : Halves} {t u : Bool} → begin ≡ halves i.low → high ≡ halves o.high
        → t ≡ ltb (whole low) (whole begin) → t ≡ false → u ≡ ltb (whole end) (whole high) → u ≡ false → meet.Within ≡ meet_of o i
    unfolding meet_of
    meet_within c d f x g y = rw (same_space, not_below_lem o.low i.low (told _ _ a c f x), not_below_lem i.high o.high (told _ _ b d g y))

    -- the issuer's row ends before the own row begins, and before it ends
    pub meet_passed : {high : Halves} {t u : Bool} → high ≡ halves o.high
        → t ≡ ltb (whole end) (whole low) → t ≡ true → u ≡ ltb (whole end) (whole high) → u ≡ true → meet.Passed ≡ meet_of o i
    unfolding meet_of
    meet_passed d f x g y =
        rw (same_space, is_below i.high o.high (told _ _ b d g y), neither (leb i.low o.low), told i.high o.low b a f x)

    module _ {begin : Halves} {t u : Bool} (c : begin ≡ halves i.low) (f : t ≡ ltb (whole end) (whole low)) (g : u ≡ ltb (whole low) (whole begin)) where
      -- it ends before the own row begins, and does not begin before it
      pub meet_behind : t ≡ true → u ≡ true → meet.Passed ≡ meet_of o i
      unfolding meet_of
      meet_behind x y = rw (same_space, is_below o.low i.low (told _ _ a c g y), told i.high o.low b a f x)

      -- the own row begins before the issuer's
      pub meet_before : t ≡ false → u ≡ true → meet.Apart low ≡ meet_of o i
      unfolding meet_of
      meet_before x y = ap (λ (m : Halves). meet.Apart m) a ∙ rw (same_space, is_below o.low i.low (told _ _ a c g y), told i.high o.low b a f x)

      -- the own row begins in the issuer's and goes on after it, whose high is so not the last number
      pub meet_beyond : t ≡ false → u ≡ false → {high n : Halves} {v : Bool} → high ≡ halves o.high → v ≡ ltb (whole end) (whole high) → v ≡ true
          → n ≡ halves (next (whole end)) → high.upper < 2 ^ 64 → high.lower < 2 ^ 64 → meet.Apart n ≡ meet_of o i
      unfolding meet_of
      meet_beyond x y {high} d r z n l m =
          let k = told i.high o.high b d r z in
          let w : o.high < 2 ^ 128 = rw (number o.high d) at (whole_below high.upper high.lower l m) in
          let j = next_below i.high o.high (ltb-true i.high o.high k) w in
          ap (λ (m : Halves). meet.Apart m) (n ∙ ap (λ (m : ℕ). halves (next m)) (number i.high b) ∙ ap (λ (m : ℕ). halves m) j)
          ∙ rw (same_space, not_below_lem o.low i.low (told _ _ a c g y), is_below i.high o.high k, told i.high o.low b a f x)

  -- in two spaces
  module _ (e : s ≡ h → ⊥) where
    other_space : eqb o.space i.space ≡ false
    other_space = ne_eqb o.space i.space (λ f. e (p ∙ f ∙ sym q))

    -- the issuer's comes first
    pub meet_earlier : h < s → meet.Passed ≡ meet_of o i
    unfolding meet_of
    meet_earlier x = rw (other_space, lt-ltb i.space o.space (omega arith))

    -- the own one does
    pub meet_later : s ≤ h → meet.Apart low ≡ meet_of o i
    unfolding meet_of
    meet_later x = ap (λ (m : Halves). meet.Apart m) a ∙ rw (other_space, le-ltb i.space o.space (omega arith))
