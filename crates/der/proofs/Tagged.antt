-- An element with a tag, by what the code's `open` says of it: for the readers above. Theorems. Assumes nothing.
--     tagged_bad, tagged_is    `tagged` where the opening is refused, and where it is found
use mathlib.Core.Path.{◌≡◌, refl, sym, ap, ◌∙◌}
use mathlib.Core.List.{List}
use mathlib.Core.Bool.{Bool, true, false}
use Prim.Native.Nat.{ℕ, ◌+◌, ◌-◌, ◌*◌}
use native.Mathlib.Omega.{arith}
use lib.ListN.{length, get_or, take, drop, length-take, length-drop}
use lib.Dec.{ltb, eqb}
use Rattle.number.proofs.Picks.{pick_not, pick_is}
use Rattle.number.specs.Tests.{pick}
use Rattle.number.specs.declared.refusal.Refusal.{Refusal}
use Rattle.number.specs.declared.refusal.Refusal.TheVariants as refusal
use Rattle.der.specs.Head.{found, fault, head}
use Rattle.der.specs.Opening.{faulty, fitted, length_of, opening_of, seen}
use Rattle.der.specs.Parts.{Contents, nopart, closed, opened, tagged}
use Rattle.der.proofs.laws.Heads.{length-head, not_is, opening_opens}
use Rattle.std.specs.Prelude.{Ok, Err}
use Rattle.der.specs.Opening.{Opening}

-- a length that is refused is refusal 2
module _ (r : Refusal) where
  element_fault : faulty ≡ Err r → refusal.Element ≡ r
  element_fault e = cc

  no_fault : {k n : ℕ} → ◌≡◌ {A = Opening} (Ok (k, n)) (Err r) → refusal.Element ≡ r
  no_fault e = let z : ◌≡◌ {A = ℕ} 0 1 = cc in absurd (omega arith)

  fitted_bad : (l k n : ℕ) → fitted l k n ≡ Err r → refusal.Element ≡ r
  unfolding fitted
  fitted_bad l k n = go (ltb (l - k) n)
    where
      go : (b : Bool) → pick b faulty (Ok (k, (k + n))) ≡ Err r → refusal.Element ≡ r
      go true e = element_fault e
      go false e = no_fault e

  -- a test that leads to a fault, or on
  or_fault : (b : Bool) (o : Opening) → (o ≡ Err r → refusal.Element ≡ r) → pick b faulty o ≡ Err r → refusal.Element ≡ r
  or_fault true o f e = element_fault e
  or_fault false o f e = f e

  length-bad : (s : List ℕ) → length_of s ≡ Err r → refusal.Element ≡ r
  unfolding length_of
  length-bad s = or_fault (ltb (length s) 2) _ (go (ltb (get_or s 1 0) 0x80) (eqb (get_or s 1 0) 0x81) (eqb (get_or s 1 0) 0x82))
    where
      go : (x y z : Bool) →
          pick x (fitted (length s) 2 (get_or s 1 0))
          (pick y (pick (ltb (length s) 3) faulty (pick (ltb (get_or s 2 0) 0x80) faulty (fitted (length s) 3 (get_or s 2 0))))
          (pick z (pick (ltb (length s) 4) faulty (pick (ltb (get_or s 2 0 * 256 + get_or s 3 0) 256) faulty (fitted (length s) 4 (get_or s 2 0 * 256 + get_or s 3 0)))) faulty))
          ≡ Err r → refusal.Element ≡ r
      go true y z = fitted_bad (length s) 2 (get_or s 1 0)
      go false true z = or_fault (ltb (length s) 3) _ (or_fault (ltb (get_or s 2 0) 0x80) _ (fitted_bad (length s) 3 (get_or s 2 0)))
      go false false true = or_fault (ltb (length s) 4) _ (or_fault (ltb (get_or s 2 0 * 256 + get_or s 3 0) 256) _ (fitted_bad (length s) 4 (get_or s 2 0 * 256 + get_or s 3 0)))
      go false false false = element_fault

module _ {X E : Type 0} (bad : Refusal → E) (t : ℕ) (inner : ℕ → List ℕ → Contents X E) (s : List ℕ) where
  pub tagged_bad : (r : Refusal) → opening_of t s ≡ Err r → tagged bad t inner s ≡ nopart (bad r)
  unfolding tagged opening_of
  tagged_bad r h = go (eqb (length s) 0) (eqb (get_or s 0 0) t) refl h
    where
      short : length_of s ≡ Err r → eqb (get_or s 0 0) t ≡ true → opened bad inner (length s) (head s) ≡ nopart (bad r)
      short e q =
          let h : fault ≡ head s = sym (ap (seen s) e) ∙ length-head s in
          rw (← h) (ap (λ (x : Refusal). nopart (bad x)) (length-bad r s e))

      go : (x y : Bool) → eqb (get_or s 0 0) t ≡ y → pick x faulty (pick y (length_of s) (Err refusal.Tag)) ≡ Err r
          → pick x (nopart (bad refusal.Element)) (pick y (opened bad inner (length s) (head s)) (nopart (bad refusal.Tag))) ≡ nopart (bad r)
      go true y q e = ap (λ (x : Refusal). nopart (bad x)) (element_fault r e)
      go false true q e = short e q
      go false false q e = let z : refusal.Tag ≡ r = cc in ap (λ (x : Refusal). nopart (bad x)) z

  pub tagged_is : (k e : ℕ) → opening_of t s ≡ Ok (k, e) → tagged bad t inner s ≡ closed (inner k (take (e - k) (drop k s))) (drop e s)
  unfolding tagged opening_of
  tagged_is k e h =
      let p = pick_not (eqb (length s) 0) _ faulty _ not_is h in
      let q = pick_is (eqb (get_or s 0 0) t) _ _ (Err refusal.Tag) not_is p.1 in
      let f : found (take (e - k) (drop k s)) (drop e s) ≡ head s = sym (ap (seen s) q.1) ∙ length-head s in
      let o = opening_opens t s k e h in
      let n : length s - (length (take (e - k) (drop k s)) + length (drop e s)) ≡ k = simp (length-take, length-drop) (omega (arith, o.start, o.order, o.inside)) in
      rw (p.0, q.0, ← f, n)
