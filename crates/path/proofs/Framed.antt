-- The framing of a bundle as the code reads it: a value's end, the loop over the values, the values after the head, and what a bundle that is framed has. Assumes nothing.
use mathlib.Core.Path.{◌≡◌, refl, sym, ap, subst, ◌∙◌}
use mathlib.Core.List.{List}
use mathlib.Core.Bool.{Bool, true, false}
use Prim.Native.Nat.{ℕ, suc, ◌+◌, ◌-◌, ◌*◌, ◌≤◌, ◌<◌}
use native.Mathlib.Omega.{arith}
use lib.ListN.{length, get_or, take, drop}
use lib.Dec.{ltb, eqb}
use borrow.Author.Tests.{ltb-false, eqb-true, eqb-false, le-ltb, lt-ltb, eq-eqb, ne_eqb}
use Rattle.std.specs.Prelude.{Ok, Err, Result, Some, None, Option, nat_eq, ◌&&◌, [], ◌∷◌}
use Rattle.std.specs.List.{starts_with}
use Rattle.number.specs.Tests.{pick}
use Rattle.number.specs.declared.refusal.Refusal.{Refusal}
use Rattle.number.specs.declared.refusal.Refusal.TheVariants as refusal
use Rattle.number.proofs.Picks.{pick_not, pick_is, rest_of}
use Rattle.path.specs.Bundle.{least_octets, most_octets, most_certificates, length_of, length_in, end_of, on_after, is_values, is_marked, frame_of}

-- a value that is cut short is no value that ends
pub cut_no_end : {e : ℕ} → None ≡ Some e → ⊥
cut_no_end {e} q = let z : ◌≡◌ {A = ℕ} 0 1 = cc in omega arith

-- the two octets of a length
pub length-is : (s : List ℕ) (x y : ℕ) → 2 ≤ length s → x ≡ get_or s 0 0 → y ≡ get_or s 1 0 → x * 256 + y ≡ length_in s
unfolding length_in
length-is s x y h p q = rw (p, q, le-ltb (length s) 2 h)

-- the length of a value that has both octets of it
pub length-there : (s : List ℕ) (n : ℕ) → 2 ≤ length s → n ≡ length_in s → n ≡ length_of s
unfolding length_in
length-there s n h e = rw (le-ltb (length s) 2 h) at e

-- a value whose octets are all there ends where its length says
pub end_at : (s : List ℕ) (n : ℕ) → 2 ≤ length s → n ≡ length_in s → 2 + n ≤ length s → Some (2 + n) ≡ end_of s
unfolding end_of
end_at s n h e l =
    let q = length-there s n h e in
    let f : 2 + length_of s ≤ length s = omega arith in
    rw (q, le-ltb (length s) 2 h, le-ltb (length s) (2 + length_of s) f)

-- one that says more octets than there are is cut short
pub end_cut : (s : List ℕ) (n : ℕ) → 2 ≤ length s → n ≡ length_in s → length s < 2 + n → None ≡ end_of s
unfolding end_of
end_cut s n h e l =
    let q = length-there s n h e in
    let f : length s < 2 + length_of s = omega arith in
    rw (le-ltb (length s) 2 h, lt-ltb (length s) (2 + length_of s) f)

-- what is known of an end: it stands where the length says, and within the octets
pub record Ends (s : List ℕ) (e : ℕ) : Type 0 where
  pub two : 2 ≤ length s
  pub is : e ≡ 2 + length_of s
  pub inside : e ≤ length s

-- and each end is known so
pub ends : (s : List ℕ) (e : ℕ) → end_of s ≡ Some e → Ends s e
unfolding end_of
ends s e q =
    let (t, q₁) = pick_not (ltb (length s) 2) (Some e) None _ cut_no_end q in
    let (l, q₂) = pick_not (ltb (length s) (2 + length_of s)) (Some e) None _ cut_no_end q₁ in
    let two = ltb-false (length s) 2 t in
    let inside = ltb-false (length s) (2 + length_of s) l in
    let is : e ≡ 2 + length_of s = cc in
    record { two = two; is = is; inside = omega arith }

-- the end that a call gave
pub end_inside : (s : List ℕ) (r : Option ℕ) (e : ℕ) → r ≡ end_of s → r ≡ Some e → e ≤ length s
end_inside s r e p q = (ends s e (sym p ∙ q)).inside

-- THE LOOP: k of n values are read, and the answer for the rest is the answer for the whole
module _ (o : Bool) (n k : ℕ) (rest : List ℕ) (h : is_values (n - k) rest ≡ o) where
  -- none is left
  pub values_end : n ≤ k → (r : Bool) → r ≡ eqb (length rest) 0 → r ≡ o
  unfolding is_values
  values_end l r e = let z : n - k ≡ 0 = omega arith in e ∙ rw z at h

  -- one is left at least: its end decides
  opened : k < n → on_after (end_of rest) (λ e. is_values (n - (k + 1)) (drop e rest)) ≡ o
  unfolding is_values
  opened l = let z : n - k ≡ suc (n - (k + 1)) = omega arith in subst (λ (i : ℕ). is_values i rest ≡ o) z h

  -- the next one is cut short
  pub values_cut : k < n → (r : Option ℕ) → r ≡ end_of rest → r ≡ None → false ≡ o
  values_cut l r p q = let u : end_of rest ≡ None = sym p ∙ q in rw u at (opened l)

  -- the next one ends
  pub values_turn : k < n → (r : Option ℕ) (e : ℕ) → r ≡ end_of rest → r ≡ Some e → is_values (n - (k + 1)) (take (length rest - e) (drop e rest)) ≡ o
  values_turn l r e p q = let u : end_of rest ≡ Some e = sym p ∙ q in rw rest_of (rw u at (opened l))

-- THE MARK

-- a test of an octet and then others
one_test : (x k : ℕ) (t u : Bool) → t ≡ u → (nat_eq k x && t) ≡ pick (eqb x k) u false
one_test x k t u e = go (eqb x k) refl
  where
    go : (b : Bool) → eqb x k ≡ b → (nat_eq k x && t) ≡ pick b u false
    go true q = rw (eq-eqb k x (sym (eqb-true x k q))) e
    go false q = rw (ne_eqb k x (λ y. eqb-false x k q (sym y)))

-- the test of the last one
last_test : (x k : ℕ) → (nat_eq k x && true) ≡ eqb x k
last_test x k = one_test x k true true refl ∙ go (eqb x k)
  where
    go : (b : Bool) → pick b true false ≡ b
    go true = refl
    go false = refl

-- a test before others that fail
no_mark : (t u : Bool) → u ≡ false → (t && u) ≡ false
no_mark true u e = e
no_mark false u e = refl

-- whether octets begin with the mark, which the definition tests octet by octet
pub mark_tests : (b : List ℕ) → starts_with nat_eq b (0x52 ∷ 0x43 ∷ 0x48 ∷ 0 ∷ 1 ∷ []) ≡ is_marked b
unfolding is_marked
mark_tests [] = refl
mark_tests (x ∷ []) = no_mark (eqb 0x52 x) false refl
mark_tests (x ∷ y ∷ []) = no_mark (eqb 0x52 x) _ (no_mark (eqb 0x43 y) false refl)
mark_tests (x ∷ y ∷ z ∷ []) = no_mark (eqb 0x52 x) _ (no_mark (eqb 0x43 y) _ (no_mark (eqb 0x48 z) false refl))
mark_tests (x ∷ y ∷ z ∷ v ∷ []) = no_mark (eqb 0x52 x) _ (no_mark (eqb 0x43 y) _ (no_mark (eqb 0x48 z) _ (no_mark (eqb 0 v) false refl)))
mark_tests (x ∷ y ∷ z ∷ v ∷ w ∷ s) =
    rw (le-ltb (length (x ∷ y ∷ z ∷ v ∷ w ∷ s)) 5 (omega arith))
    (one_test x 0x52 _ _ (one_test y 0x43 _ _ (one_test z 0x48 _ _ (one_test v 0 _ _ (last_test w 1)))))

-- the values after the head: n octets of it, and of each certificate two
pub values_after : (n : ℕ) (b : List ℕ) (x y : ℕ) (r v : Bool) → r ≡ is_values (2 * x) (take (length b - n) (drop n b)) → x ≡ y → r ≡ v → is_values (2 * y) (drop n b) ≡ v
values_after n b x y r v p q u = rw (← q, ← rest_of n b) (sym p ∙ u)

-- a refusal is no number of certificates
no_refusal : {r : Refusal} {n : ℕ} → Err r ≡ Ok n → ⊥
no_refusal {r} {n} q = let z : ◌≡◌ {A = ℕ} 0 1 = cc in omega arith

-- what is known of a bundle with n certificates
pub record Bundled (b : List ℕ) (n : ℕ) : Type 0 where
  pub least : least_octets ≤ length b
  pub most : length b ≤ most_octets
  pub marked : is_marked b ≡ true
  pub count : n ≡ get_or b 5 0
  pub some : 0 < n
  pub few : n ≤ most_certificates
  pub values : is_values (2 * n) (drop 6 b) ≡ true

-- and each that is framed is known so
pub bundled : (b : List ℕ) (n : ℕ) → frame_of b ≡ Ok n → Bundled b n
unfolding frame_of
bundled b n h =
    let r = Ok n in
    let (t₀, h₀) = pick_not (ltb (length b) least_octets) r (Err refusal.Framing) _ no_refusal h in
    let (t₁, h₁) = pick_not (ltb most_octets (length b)) r (Err refusal.Framing) _ no_refusal h₀ in
    let (t₂, h₂) = pick_is (is_marked b) r _ (Err refusal.Mark) no_refusal h₁ in
    let (t₃, h₃) = pick_not (eqb (get_or b 5 0) 0) r (Err refusal.CertificateCount) _ no_refusal h₂ in
    let (t₄, h₄) = pick_not (ltb most_certificates (get_or b 5 0)) r (Err refusal.CertificateCount) _ no_refusal h₃ in
    let (t₅, h₅) = pick_is (is_values (2 * get_or b 5 0) (drop 6 b)) r (Ok (get_or b 5 0)) (Err refusal.Framing) no_refusal h₄ in
    let e : n ≡ get_or b 5 0 = cc in
    let some = eqb-false (get_or b 5 0) 0 t₃ in
    let few = ltb-false most_certificates (get_or b 5 0) t₄ in
    record {
      least = ltb-false (length b) least_octets t₀;
      most = ltb-false most_octets (length b) t₁;
      marked = t₂;
      count = e;
      some = omega arith;
      few = omega arith;
      values = rw e t₅;
    }

-- the count that a call gave
pub same_count : (x y : ℕ) → x ≡ y → ◌≡◌ {A = Result ℕ Refusal} (Ok x) (Ok y)
same_count x y e = ap Ok e
