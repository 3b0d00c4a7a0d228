-- The one form of the addresses from low to high, both ways, at any width. Theorems. Assumes nothing.
--     form_span, span_form     what `form_of` gives has that low and high, and what has them is what `form_of` gives
--     form_parts       its bits are ones that a BIT STRING can begin
use mathlib.Core.Path.{◌≡◌, refl, sym, ap, ◌∙◌}
use mathlib.Core.Bool.{false}
use Prim.Native.Nat.{ℕ, ◌+◌, ◌-◌, ◌*◌, ◌/◌, ◌%◌, ◌^◌, ◌≤◌, ◌<◌}
use native.Mathlib.Omega.{arith}
use native.Mathlib.Nat.{mul-mod_left}
use lib.Arith.{digits_lt}
use lib.Dec.{ltb, eqb}
use lib.Pow.{pow-add, split, high as high_part, ones_lt, shr_lt, shl-shr}
use borrow.Author.Tests.{lt-ltb, eq-eqb, ltb-true, eqb-true}
use Rattle.number.specs.Kept.{kept_min, kept_max, zero_filled, one_filled}
use Rattle.number.specs.Shape.{is_prefix, shape_of}
use Rattle.number.proofs.Picks.{pick_not, pick_is}
use Rattle.number.proofs.laws.Kept.{min_back, max_back}
use Rattle.number.proofs.laws.Prefix.{prefix_told, told_prefix, prefix_single}
use Rattle.der.proofs.laws.Bits.{Begins}
use Rattle.values.specs.Forms.{Form, prefix, range, formed, form_of, span, none, ranged, span_of}
use Rattle.std.specs.Prelude.{Option, Some, None}

-- the first n bits of x, with zeros or ones after them
module _ (w n x : ℕ) where
  -- what came after them is not seen: zeros, then ones
  one_zero : one_filled w n (zero_filled w n x) ≡ one_filled w n x
  unfolding one_filled zero_filled
  one_zero = ap (λ (y : ℕ). y * 2 ^ (w - n) + (2 ^ (w - n) - 1)) (shl-shr (x / 2 ^ (w - n)) (w - n))

  -- ones, then zeros
  zero_one : zero_filled w n (one_filled w n x) ≡ zero_filled w n x
  unfolding one_filled zero_filled
  zero_one = ap (λ (y : ℕ). y * 2 ^ (w - n)) (high_part (x / 2 ^ (w - n)) (w - n) (ones_lt (w - n)))

  -- zeros after them are a BIT STRING's
  zero_begins : n ≤ w → x < 2 ^ w → Begins w n (zero_filled w n x)
  unfolding zero_filled
  zero_begins f b = record { fits = f; below = omega (arith, split x (w - n)); zeros = mul-mod_left (x / 2 ^ (w - n)) (2 ^ (w - n)) }

  -- ones after them are a number of w bits too
  one_below : n ≤ w → x < 2 ^ w → one_filled w n x < 2 ^ w
  unfolding one_filled
  one_below f b =
      let e : w ≡ n + (w - n) = omega arith in
      let d : x / 2 ^ (w - n) * 2 ^ (w - n) + (2 ^ (w - n) - 1) < 2 ^ n * 2 ^ (w - n) = digits_lt (shr_lt n (w - n) (rw e at b)) (ones_lt (w - n)) in
      omega (arith, ap (λ (i : ℕ). 2 ^ i) e ∙ pow-add 2 n (w - n))

-- a number that ends in zeros
module _ (w n x : ℕ) (z : x % 2 ^ (w - n) ≡ 0) where
  -- they are what fills it
  zero_same : zero_filled w n x ≡ x
  unfolding zero_filled
  zero_same = omega (arith, split x (w - n))

  -- and ones in their place are added to it
  one_last : one_filled w n x ≡ x + (2 ^ (w - n) - 1)
  unfolding one_filled
  one_last = omega (arith, split x (w - n))

-- by what the shape is
module _ (w low high : ℕ) where
  -- a range is no prefix
  range_not : shape_of w low high ≡ None → is_prefix w low high ≡ false
  unfolding shape_of
  range_not e = (pick_not (is_prefix w low high) None _ None (λ q. let z : ◌≡◌ {A = ℕ} 0 1 = cc in omega arith) e).0

  -- and the other way
  not_range : is_prefix w low high ≡ false → shape_of w low high ≡ None
  unfolding shape_of
  not_range e = rw e

  -- min is below max of a range
  range_apart : low ≤ high → high < 2 ^ w → shape_of w low high ≡ None → low < high
  range_apart l b e =
      let s : low ≡ high → ⊥ = (λ q. let p : shape_of w low high ≡ Some w = rw q (prefix_told w w high high (prefix_single w high b)) in let z : ◌≡◌ {A = ℕ} 0 1 = cc in omega arith) in
      omega arith

-- its low and high are those that it was made for
pub form_span : (w low high : ℕ) → low ≤ high → high < 2 ^ w → span_of w (form_of w low high) ≡ span low high
unfolding form_of ranged
form_span w low high l b = go (shape_of w low high) refl
  where
    go : (s : (Option ℕ)) → shape_of w low high ≡ s → span_of w (formed w low high s) ≡ span low high
    go (Some n) e = let p = told_prefix w n low high (omega arith) e in ap (span low) (one_last w n low p.zeros ∙ sym p.last)
    go None e =
        let i = range_apart w low high l b e in
        rw (one_zero w (kept_max w high) high, max_back w high b, lt-ltb low high i, eq-eqb (kept_min w low) (kept_min w low) refl, eq-eqb (kept_max w high) (kept_max w high) refl, range_not w low high e)

-- what a form says of its bits
abbrev pub Parts : ℕ → Form → Type 0
Parts w (prefix n x) = Begins w n x
Parts w (range n x m y) = Begins w n x × Begins w m y

-- they can be written
pub form_parts : (w low high : ℕ) → low ≤ high → high < 2 ^ w → Parts w (form_of w low high)
unfolding form_of
form_parts w low high l b = go (shape_of w low high) refl
  where
    -- min and max keep no more bits than they have
    min_fits : kept_min w low ≤ w
    min_fits = unfold kept_min in omega arith

    max_fits : kept_max w high ≤ w
    max_fits = unfold kept_max in omega arith

    go : (s : (Option ℕ)) → shape_of w low high ≡ s → Parts w (formed w low high s)
    go (Some n) e = let p = told_prefix w n low high (omega arith) e in record { fits = p.fits; below = p.below; zeros = p.zeros }
    go None e = (rw (min_back w low (omega arith)) at (zero_begins w (kept_min w low) low min_fits (omega arith)), zero_begins w (kept_max w high) high max_fits b)

-- none is no span
no_span : {low high : ℕ} → none ≡ span low high → ⊥
no_span e = let z : ◌≡◌ {A = ℕ} 0 1 = cc in omega arith

-- what a range was, by its tests
range_was : (w n x m y z low high : ℕ) → one_filled w m y ≡ z → Begins w m y → ranged w n x m z ≡ span low high → (range n x m y ≡ form_of w low high) × (low ≤ high) × (high < 2 ^ w)
unfolding ranged form_of
range_was w n x m y z low high f h e =
    let a = pick_is (ltb x z) _ _ none no_span e in
    let b = pick_is (eqb n (kept_min w x)) _ _ none no_span a.1 in
    let c = pick_is (eqb m (kept_max w z)) _ _ none no_span b.1 in
    let d = pick_not (is_prefix w x z) _ none _ no_span c.1 in
    let s = d.1 in
    let p : x ≡ low = cc in
    let q : z ≡ high = cc in
    let g : zero_filled w m z ≡ y = rw f at (zero_one w m y ∙ zero_same w m y h.zeros) in
    let i : n ≡ kept_min w x = eqb-true n (kept_min w x) b.0 in
    let j : m ≡ kept_max w z = eqb-true m (kept_max w z) c.0 in
    rw (← p, ← q) (rw (not_range w x z d.0, ← i, ← j, g), omega (arith, ltb-true x z a.0), rw (← f) (one_below w m y h.fits h.below))

-- what has low and high is the one form of them
pub span_form : (w : ℕ) (f : Form) (low high : ℕ) → Parts w f → span_of w f ≡ span low high → (f ≡ form_of w low high) × (low ≤ high) × (high < 2 ^ w)
unfolding form_of
span_form w (prefix n x) low high h e =
    let p : x ≡ low = cc in
    let q : one_filled w n x ≡ high = cc in
    let l = one_last w n x h.zeros in
    let t = prefix_told w n x (one_filled w n x) (record { fits = h.fits; below = h.below; zeros = h.zeros; last = l }) in
    rw (← p, ← q) (rw t, omega arith, one_below w n x h.fits h.below)
span_form w (range n x m y) low high h e = range_was w n x m y (one_filled w m y) low high refl h.1 e
