-- Characters written one after another. Theorems. Assumes nothing.
--     put_same, fits_same, from_0      the same characters under another name, and at the start of a run
--     Along        some parts of a text are written, and there is room for the others.     begin, onward, end       the first part, one more, and all of them
--     Reached      the first k parts are written.      first_fits, next_fits       there is room for the first part, and for the next
use mathlib.Core.Path.{◌≡◌, ap, ◌∙◌}
use mathlib.Core.List.{List, [], ◌∷◌, ◌++◌}
use Prim.Native.Nat.{ℕ, ◌+◌, ◌≤◌}
use native.Mathlib.Omega.{arith}
use lib.ListN.{length, take, drop, length-append}
use Rattle.der.specs.Written.{written}
use Rattle.der.proofs.laws.Writing.{length-written, written_on}
use Rattle.report.specs.Reports.{put}

-- a place, and the run
abbrev Placed : Type 0
Placed = ℕ × List ℕ

-- the same characters under another name
pub put_same : {s : List ℕ} {z : Placed} (out : List ℕ) (at : ℕ) (u : List ℕ) → s ≡ u → z ≡ put out at s → z ≡ put out at u
put_same out at u e p = p ∙ rw e

pub fits_same : {u : List ℕ} (out : List ℕ) (at : ℕ) (s : List ℕ) → s ≡ u → at + length u ≤ length out → at + length s ≤ length out
fits_same out at s e h = rw e h

-- at the start of a run
pub from_0 : {n m : ℕ} → n ≤ m → 0 + n ≤ m
from_0 h = omega arith

-- A TEXT OF SEVERAL PARTS

-- a text and the parts that follow it
abbrev pub joined : List ℕ → List (List ℕ) → List ℕ
joined s [] = s
joined s (u ∷ us) = joined (s ++ u) us

-- is no shorter than without them
longer : (s : List ℕ) (us : List (List ℕ)) → length s ≤ length (joined s us)
longer s [] = omega arith
longer s (u ∷ us) = omega (arith, longer (s ++ u) us, length-append s u)

-- s is written at a place of `out`, which has room for the parts us after it
pub record Along (out : List ℕ) (at : ℕ) (s : List ℕ) (us : List (List ℕ)) (r : ℕ) (left : List ℕ) : Type 0 where
  pub fits : at + length (joined s us) ≤ length out
  pub place : r ≡ at + length s
  pub done : left ≡ written out at s

-- s and the first k of the parts us are written
abbrev pub Reached : List ℕ → ℕ → List ℕ → List (List ℕ) → ℕ → ℕ → List ℕ → Type 0
Reached out at s us k r left = Along out at (joined s (take k us)) (drop k us) r left

-- the first part
module _ (out : List ℕ) (at : ℕ) (s : List ℕ) (us : List (List ℕ)) (f : at + length (joined s us) ≤ length out) where
  -- there is room for it
  pub first_fits : at + length s ≤ length out
  first_fits = omega (arith, longer s us)

  -- and it is written
  pub begin : {r : ℕ} {left : List ℕ} → ◌≡◌ {A = Placed} (r, left) (put out at s) → Along out at s us r left
  begin e = record { fits = f; place = ap (λ (z : Placed). z.0) e; done = ap (λ (z : Placed). z.1) e }

-- the next one
module _ {out : List ℕ} {at : ℕ} {s u : List ℕ} {us : List (List ℕ)} {r : ℕ} {left : List ℕ} (v : Along out at s (u ∷ us) r left) where
  -- there is room for both
  both : at + length s + length u ≤ length out
  both = omega (arith, v.fits, longer (s ++ u) us, length-append s u)

  -- there is room for it
  pub next_fits : r + length u ≤ length left
  next_fits = let p = v.place in omega (arith, both, ap length v.done ∙ length-written out at s)

  -- and it is written
  pub onward : {r' : ℕ} {left' : List ℕ} → ◌≡◌ {A = Placed} (r', left') (put left r u) → Along out at (s ++ u) us r' left'
  onward {r'} {left'} e =
      let p = v.place in
      let q : r' ≡ r + length u = ap (λ (z : Placed). z.0) e in
      record {
        fits = v.fits;
        place = omega (arith, length-append s u);
        done = ap (λ (z : Placed). z.1) e ∙ rw (v.done, v.place) (written_on out at s u both);
      }

-- all parts
pub end : {out : List ℕ} {at : ℕ} {s : List ℕ} {r : ℕ} {left : List ℕ} → Along out at s [] r left → ◌≡◌ {A = Placed} (r, left) (put out at s)
end v = rw (v.place, v.done)
