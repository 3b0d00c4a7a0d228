-- Brief elements: what the test says, and octets that were taken as parts. Theorems. Assumes nothing.
--     brief_..     `is_brief`.     headed      octets with a head of one octet of length.      both_taken      two elements in a SEQUENCE
--     of_eight     octets by the number that eight spell.      begun       what begins with an encoding is read as a part
use mathlib.Core.Path.{◌≡◌, sym, ap, ◌∙◌}
use mathlib.Core.List.{List, [], ◌∷◌, ◌++◌}
use mathlib.Core.Bool.{Bool, true, false, false≢true}
use Prim.Native.Nat.{ℕ, suc, ◌+◌, ◌-◌, ◌*◌, ◌/◌, ◌^◌, ◌≤◌, ◌<◌}
use native.Mathlib.Omega.{arith}
use lib.Dec.{ltb, eqb}
use lib.ListN.{length, get_or, take, drop, take-append-drop, length-take, length-drop}
use lib.Seq.{length-take-le, take-take, take-add}
use borrow.Author.Tests.{ltb-false, leb-true, eqb-true}
use Rattle.number.specs.Octets.{Octets, value}
use Rattle.number.proofs.Picks.{pick_is, pick_not}
use Rattle.number.proofs.laws.Octets.{octets_part, first_of}
use Rattle.der.specs.Head.{element}
use Rattle.der.specs.Parts.{Part}
use Rattle.der.proofs.laws.Heads.{Sized, one}
use Rattle.der.proofs.laws.Parts.{Outer}
use Rattle.values.specs.Faults.{Fault}
use Rattle.values.specs.Briefs.{is_brief, Starts}
use Rattle.values.proofs.Joins.{Took}

-- what the test says
module _ {r : Bool} (tag least most : ℕ) (s : List ℕ) (p : r ≡ is_brief tag least most s) (y : r ≡ true) where
  facts : (11 ≤ length s) × (get_or s 0 0 ≡ tag) × (least ≤ get_or s 1 0) × (get_or s 1 0 ≤ most)
  unfolding is_brief
  facts =
      let e = sym p ∙ y in
      let (l, f) = pick_not (ltb (length s) 11) true false _ false≢true e in
      let (t, g) = pick_is (eqb (get_or s 0 0) tag) true _ false false≢true f in
      let (a, h) = pick_not (ltb (get_or s 1 0) least) true false _ false≢true g in
      (ltb-false (length s) 11 l, eqb-true (get_or s 0 0) tag t, ltb-false (get_or s 1 0) least a, leb-true (get_or s 1 0) most h)

  pub brief_long : 11 ≤ length s
  brief_long = facts.0

  -- so there is a second octet, a third, and a tenth
  pub brief_second : 1 < length s
  brief_second = omega (arith, brief_long)

  pub brief_third : 2 < length s
  brief_third = omega (arith, brief_long)

  pub brief_ten : 10 ≤ length s
  brief_ten = omega (arith, brief_long)

  pub brief_tag : get_or s 0 0 ≡ tag
  brief_tag = facts.1

  pub brief_least : least ≤ get_or s 1 0
  brief_least = facts.2

  pub brief_most : get_or s 1 0 ≤ most
  brief_most = facts.3

-- a head of one octet of length, and the contents
pub headed : (n : ℕ) (s : List ℕ) → 2 + n ≤ length s → get_or s 1 0 ≡ n → n < 128 → take (2 + n) s ≡ element (get_or s 0 0) (take n (drop 2 s))
unfolding element
headed n (a ∷ b ∷ r) l e h =
    let i : length (take n r) ≡ n = omega (arith, length-take n r) in
    let k : 2 + n ≡ suc (suc n) = omega arith in
    rw (k, i, one n h) (ap (λ (x : ℕ). a ∷ x ∷ take n r) e)
headed n (a ∷ []) l e h = absurd (omega arith)
headed n [] l e h = absurd (omega arith)

-- two elements in a SEQUENCE: k octets and j, of which its length is the sum
pub both_taken : (s : List ℕ) (k j : ℕ) (c d : List ℕ) → 2 ≤ length s → k + j ≡ get_or s 1 0 → k + j < 128 → Starts (drop 2 s) k c → Starts (drop k (drop 2 s)) j d
    → Starts s (2 + k + j) (element (get_or s 0 0) (c ++ d))
both_taken s k j c d l e h a b =
    let m = length-drop 2 s in
    let n = length-drop k (drop 2 s) in
    let f : 2 + (k + j) ≤ length s = omega (arith, m, n, a.0, b.0) in
    let g : take (k + j) (drop 2 s) ≡ c ++ d = take-add k j (drop 2 s) ∙ (λ i. (a.1 i) ++ (b.1 i)) in
    let q : 2 + k + j ≡ 2 + (k + j) = omega arith in
    rw q (f, rw g at (headed (k + j) s f (sym e) h))

-- what begins with an encoding is read as a part
pub begun : {X : Type 0} {dec : List ℕ → Part X Fault} {enc : X → List ℕ} {Ok : X → Type 0} → Outer dec enc Ok → (x : X) (s : List ℕ) (k : ℕ) → Ok x → Sized (enc x) → 0 < k → Starts s k (enc x)
    → Took (dec s) s x k
begun {X} {dec} {enc} laws x s k o z l b =
    let e : s ≡ enc x ++ drop k s = sym (take-append-drop k s) ∙ ap (λ (t : List ℕ). t ++ drop k s) b.1 in
    record { told = sym (laws.reads x (drop k s) o z) ∙ ap dec (sym e); some = l; inside = b.0 }

-- octets by the number that eight spell from m on, as the code reads them
pub of_eight : (k m : ℕ) (s : List ℕ) → Octets s → k ≤ 8 → m + 8 ≤ length s → value (take 8 (take 8 (drop m s))) / 2 ^ (64 - 8 * k) ≡ value (take k (drop m s))
of_eight k m s o h l =
    let n : length (take 8 (drop m s)) ≡ 8 = length-take-le 8 (drop m s) (omega (arith, length-drop m s)) in
    rw (take-take 8 8 (drop m s) (omega arith), first_of k (take 8 (drop m s)) (octets_part m 8 s o) h n, take-take k 8 (drop m s) h)
