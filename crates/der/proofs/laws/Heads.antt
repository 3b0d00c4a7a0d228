-- A DER head, both ways, and what the code says of one. Theorems. Assumes nothing.
--     head_element, element_head      what `element` writes is read, and what is read was written by `element`
--     head_size_lem, element_size_lem      how many octets there are.      head_two, head_few       a head has few
--     opening_head     what the code says of an element is what `head` says.      Opens, opening_opens     and where its contents lie
use mathlib.Core.Path.{◌≡◌, refl, sym, ap, ◌∙◌}
use mathlib.Core.List.{List, [], ◌∷◌, ◌++◌}
use mathlib.Core.Bool.{Bool, true, false}
use mathlib.Core.Logic.{◌⊎◌, inl, inr}
use Prim.Native.Nat.{ℕ, suc, ◌+◌, ◌-◌, ◌*◌, ◌/◌, ◌%◌, ◌≤◌, ◌<◌}
use native.Mathlib.Omega.{arith}
use lib.ListN.{length, drop, take, get_or, take-append-drop, length-append, length-drop}
use lib.Seq.{take-append_seam, drop-append_seam, length-take-le, drop-drop}
use lib.Dec.{ltb, eqb}
use borrow.Author.Tests.{le-ltb, lt-ltb, eq-eqb, ne_eqb, ltb-true, ltb-false, eqb-true}
use Rattle.number.specs.Tests.{pick}
use Rattle.number.specs.Octets.{Octets}
use Rattle.number.specs.declared.refusal.Refusal.{Refusal}
use Rattle.number.specs.declared.refusal.Refusal.TheVariants as refusal
use Rattle.number.proofs.Picks.{below, pick_not, pick_is}
use Rattle.number.proofs.laws.Octets.{octets_tail}
use Rattle.der.specs.Head.{found, fault, head, body, length_octets, element, head_octets, head_size}
use Rattle.der.specs.Opening.{faulty, fitted, length_of, opening_of, seen}
use Rattle.der.proofs.Tails.{octets_right}
use Rattle.std.specs.Prelude.{Ok, Err}
use Rattle.der.specs.Opening.{Opening}

-- what a length of at most three octets can say
abbrev pub Sized : List ℕ → Type 0
Sized c = length c < 65536

-- the octets of a length at each size
module _ (n : ℕ) where
  -- below 128
  pub one : n < 128 → length_octets n ≡ n ∷ []
  unfolding length_octets
  one h = rw (lt-ltb n 128 h)

  -- below 256
  pub two : 128 ≤ n → n < 256 → length_octets n ≡ 0x81 ∷ n ∷ []
  unfolding length_octets
  two h l = rw (le-ltb n 128 h, lt-ltb n 256 l)

  -- from 256 on
  pub three : 256 ≤ n → length_octets n ≡ 0x82 ∷ n / 256 ∷ n % 256 ∷ []
  unfolding length_octets
  three h = let k : 128 ≤ n = omega arith in rw (le-ltb n 128 k, le-ltb n 256 h)

-- a fault is no head
no_head : {c rest : List ℕ} → fault ≡ found c rest → ⊥
no_head e = let z : ◌≡◌ {A = ℕ} 0 1 = cc in omega arith

-- the contents, both ways
body_found : (n : ℕ) (c rest : List ℕ) → n ≡ length c → body n (c ++ rest) ≡ found c rest
unfolding body
body_found n c rest e = rw (e, le-ltb (length (c ++ rest)) (length c) (omega (arith, length-append c rest)), take-append_seam, drop-append_seam)

-- and back
body_was : {n : ℕ} {s c rest : List ℕ} → body n s ≡ found c rest → (s ≡ c ++ rest) × (n ≡ length c)
unfolding body
body_was {n} {s} {c} {rest} e =
    let h = pick_not (ltb (length s) n) (found c rest) fault _ no_head e in
    let g = h.1 in
    let p : take n s ≡ c = cc in
    let q : drop n s ≡ rest = cc in
    let l : n ≤ length s = ltb-false (length s) n h.0 in
    (sym (take-append-drop n s) ∙ cc, sym (length-take-le n s l) ∙ ap length p)

-- a head that was written is read back, with its contents and the rest
pub head_element : (t : ℕ) (c rest : List ℕ) → Sized c → head (element t c ++ rest) ≡ found c rest
unfolding head element
head_element t c rest b = go (below (length c) 128) (below (length c) 256)
  where
    go : (length c < 128) ⊎ (128 ≤ length c) → (length c < 256) ⊎ (256 ≤ length c) → head (element t c ++ rest) ≡ found c rest
    go (inl h) k = rw (one (length c) h, le-ltb (suc (suc (length (c ++ rest)))) 2 (omega arith), lt-ltb (length c) 128 h) (body_found (length c) c rest refl)
    go (inr h) (inl k) = rw (two (length c) h k, le-ltb (suc (suc (suc (length (c ++ rest))))) 2 (omega arith), le-ltb (suc (suc (suc (length (c ++ rest))))) 3 (omega arith), le-ltb (length c) 128 h) (body_found (length c) c rest refl)
    go (inr h) (inr k) =
        let e : length c / 256 * 256 + length c % 256 ≡ length c = omega arith in
        rw (three (length c) k, le-ltb (suc (suc (suc (suc (length (c ++ rest)))))) 2 (omega arith), le-ltb (suc (suc (suc (suc (length (c ++ rest)))))) 4 (omega arith), e, le-ltb (length c) 256 k)
        (body_found (length c) c rest refl)

-- a head at each size, from what the contents were
module _ (a n : ℕ) (s : List ℕ) {c rest : List ℕ} (h : body n s ≡ found c rest) where
  -- of one octet
  was_one : n < 128 → a ∷ n ∷ s ≡ element a c ++ rest
  unfolding element
  was_one k = let (q, r) = body_was h in cc (one n k)

  -- of two
  was_two : 128 ≤ n → n < 256 → a ∷ 0x81 ∷ n ∷ s ≡ element a c ++ rest
  unfolding element
  was_two k l = let (q, r) = body_was h in cc (two n k l)

  -- of three
  was_three : (x y : ℕ) → n ≡ x * 256 + y → 256 ≤ n → y < 256 → a ∷ 0x82 ∷ x ∷ y ∷ s ≡ element a c ++ rest
  unfolding element
  was_three x y e k l =
      let (q, r) = body_was h in
      let u : n / 256 ≡ x = omega arith in
      let v : n % 256 ≡ y = omega arith in
      cc (three n k)

-- what was read as a head is what writing gives
pub element_head : (s c rest : List ℕ) → Octets s → head s ≡ found c rest → s ≡ element (get_or s 0 0) c ++ rest
unfolding head Octets
element_head [] c rest b e = absurd (no_head e)
element_head (a ∷ []) c rest b e = absurd (no_head e)
element_head (a ∷ n ∷ s) c rest b e = go (ltb n 128) (eqb n 129) (eqb n 130) refl refl refl s (λ i. b (suc (suc i))) (pick_not (ltb (suc (suc (length s))) 2) _ fault _ no_head e).1
  where
    go : (x y z : Bool) → ltb n 128 ≡ x → eqb n 129 ≡ y → eqb n 130 ≡ z → (s : List ℕ) → ((i : ℕ) → get_or s i 0 < 256) →
        pick x (body n s)
        (pick y (pick (ltb (suc (suc (length s))) 3) fault (pick (ltb (get_or s 0 0) 128) fault (body (get_or s 0 0) (drop 1 s))))
        (pick z (pick (ltb (suc (suc (length s))) 4) fault (pick (ltb (get_or s 0 0 * 256 + get_or s 1 0) 256) fault (body (get_or s 0 0 * 256 + get_or s 1 0) (drop 2 s)))) fault))
        ≡ found c rest → a ∷ n ∷ s ≡ element a c ++ rest
    go true y z p q r s b h = was_one a n s h (ltb-true n 128 p)
    go false true z p q r [] b h = absurd (no_head h)
    go false true z p q r (m ∷ s) b h =
        let k = pick_not (ltb (suc (suc (suc (length s)))) 3) _ fault _ no_head h in
        let l = pick_not (ltb m 128) _ fault _ no_head k.1 in
        rw (eqb-true n 129 q) (was_two a m s l.1 (ltb-false m 128 l.0) (b 0))
    go false false true p q r [] b h = absurd (no_head h)
    go false false true p q r (x ∷ []) b h = absurd (no_head h)
    go false false true p q r (x ∷ y ∷ s) b h =
        let k = pick_not (ltb (suc (suc (suc (suc (length s))))) 4) _ fault _ no_head h in
        let l = pick_not (ltb (x * 256 + y) 256) _ fault _ no_head k.1 in
        rw (eqb-true n 130 r) (was_three a (x * 256 + y) s l.1 x y refl (ltb-false (x * 256 + y) 256 l.0) (b 1))
    go false false false p q r s b h = absurd (no_head h)

-- the head's size
pub head_size_lem : (t n : ℕ) → length (head_octets t n) ≡ head_size n
unfolding head_octets head_size length_octets
head_size_lem t n = go (ltb n 128) (ltb n 256)
  where
    go : (a b : Bool) → length (t ∷ pick a (n ∷ []) (pick b (0x81 ∷ n ∷ []) (0x82 ∷ n / 256 ∷ n % 256 ∷ []))) ≡ pick a 2 (pick b 3 4)
    go true b = refl
    go false true = refl
    go false false = refl

-- few octets have a head of two
pub head_two : (n : ℕ) → n < 128 → head_size n ≡ 2
unfolding head_size
head_two n h = rw (lt-ltb n 128 h)

-- and each has one of two to four
pub head_few : (n : ℕ) → (2 ≤ head_size n) × (head_size n ≤ 4)
unfolding head_size
head_few n = go (ltb n 128) (ltb n 256)
  where
    go : (a b : Bool) → (2 ≤ pick a 2 (pick b 3 4)) × (pick a 2 (pick b 3 4) ≤ 4)
    go true b = omega arith
    go false true = omega arith
    go false false = omega arith

-- and the element's
pub element_size_lem : (t : ℕ) (c : List ℕ) → length (element t c) ≡ head_size (length c) + length c
unfolding element head_octets
element_size_lem t c = omega (arith, length-append (length_octets (length c)) c, head_size_lem t (length c))

-- an element is longer than its contents
pub element_longer : (t : ℕ) (c : List ℕ) → length c < length (element t c)
unfolding element
element_longer t c = omega (arith, length-append (length_octets (length c)) c)

-- and its contents are octets if it is
pub octets_element : (t : ℕ) (c : List ℕ) → Octets (element t c) → Octets c
unfolding element
octets_element t c b = octets_right (length_octets (length c)) c (octets_tail t (length_octets (length c) ++ c) b)

-- it begins with its tag
pub tag_first : (t : ℕ) (c rest : List ℕ) → get_or (element t c ++ rest) 0 0 ≡ t
unfolding element
tag_first t c rest = refl

-- what the code says of an element, once its tag is the one that was asked for
seen_pick : (s : List ℕ) (b : Bool) (x y : Opening) → seen s (pick b x y) ≡ pick b (seen s x) (seen s y)
seen_pick s true x y = refl
seen_pick s false x y = refl

-- at its contents
seen_fitted : (s : List ℕ) (k n : ℕ) → seen s (fitted (length s) k n) ≡ body n (drop k s)
unfolding fitted body
seen_fitted s k n = let e : k + n - k ≡ n = omega arith in simp (seen_pick, length-drop, drop-drop, e)

-- at its length
pub length-head : (s : List ℕ) → seen s (length_of s) ≡ head s
unfolding length_of head
length-head s = simp (seen_pick, seen_fitted)

-- is what `head` says of it
pub opening_head : (tag : ℕ) (s : List ℕ) → get_or s 0 0 ≡ tag → seen s (opening_of tag s) ≡ head s
unfolding opening_of head
opening_head tag [] e = refl
opening_head tag (a ∷ s) e = rw (ne_eqb (suc (length s)) 0 (omega arith), eq-eqb a tag e) (length-head (a ∷ s))

-- where the contents lie: after two octets or more, and within s
pub record Opens (s : List ℕ) (k e : ℕ) : Type 0 where
  pub start : 2 ≤ k
  pub order : k ≤ e
  pub inside : e ≤ length s

-- a refusal says no place
pub not_is : {r : Refusal} {k e : ℕ} → ◌≡◌ {A = Opening} (Err r) (Ok (k, e)) → ⊥
not_is h = let z : ◌≡◌ {A = ℕ} 0 1 = cc in omega arith

-- by the contents
fitted_opens : (s : List ℕ) (j n k e : ℕ) → 2 ≤ j → j ≤ length s → fitted (length s) j n ≡ Ok (k, e) → Opens s k e
unfolding fitted
fitted_opens s j n k e l m h =
    let p = pick_not (ltb (length s - j) n) _ faulty _ not_is h in
    let g = p.1 in
    let t : ◌≡◌ {A = ℕ × ℕ} (j, j + n) (k, e) = cc in
    let a : j ≡ k = ap (λ (p : ℕ × ℕ). p.0) t in
    let b : j + n ≡ e = ap (λ (p : ℕ × ℕ). p.1) t in
    let q = ltb-false (length s - j) n p.0 in
    record { start = omega arith; order = omega arith; inside = omega arith }

-- by the length
length-opens : (s : List ℕ) (k e : ℕ) → length_of s ≡ Ok (k, e) → Opens s k e
unfolding length_of
length-opens s k e h =
    let p = pick_not (ltb (length s) 2) _ faulty _ not_is h in
    go (ltb (get_or s 1 0) 0x80) (eqb (get_or s 1 0) 0x81) (eqb (get_or s 1 0) 0x82) (ltb-false (length s) 2 p.0) p.1
  where
    go : (x y z : Bool) → 2 ≤ length s →
        pick x (fitted (length s) 2 (get_or s 1 0))
        (pick y (pick (ltb (length s) 3) faulty (pick (ltb (get_or s 2 0) 0x80) faulty (fitted (length s) 3 (get_or s 2 0))))
        (pick z (pick (ltb (length s) 4) faulty (pick (ltb (get_or s 2 0 * 256 + get_or s 3 0) 256) faulty (fitted (length s) 4 (get_or s 2 0 * 256 + get_or s 3 0)))) faulty))
        ≡ Ok (k, e) → Opens s k e
    go true y z l h = fitted_opens s 2 (get_or s 1 0) k e (omega arith) l h
    go false true z l h =
        let p = pick_not (ltb (length s) 3) _ faulty _ not_is h in
        let q = pick_not (ltb (get_or s 2 0) 0x80) _ faulty _ not_is p.1 in
        fitted_opens s 3 (get_or s 2 0) k e (omega arith) (ltb-false (length s) 3 p.0) q.1
    go false false true l h =
        let p = pick_not (ltb (length s) 4) _ faulty _ not_is h in
        let q = pick_not (ltb (get_or s 2 0 * 256 + get_or s 3 0) 256) _ faulty _ not_is p.1 in
        fitted_opens s 4 (get_or s 2 0 * 256 + get_or s 3 0) k e (omega arith) (ltb-false (length s) 4 p.0) q.1
    go false false false l h = absurd (not_is h)

-- and by the tag: what `opening_of` says
pub opening_opens : (tag : ℕ) (s : List ℕ) (k e : ℕ) → opening_of tag s ≡ Ok (k, e) → Opens s k e
unfolding opening_of
opening_opens tag s k e h =
    let p = pick_not (eqb (length s) 0) _ faulty _ not_is h in
    let q = pick_is (eqb (get_or s 0 0) tag) _ _ (Err refusal.Tag) not_is p.1 in
    length-opens s k e q.1

-- the same for what a call gave
pub opens : {r : Opening} (tag : ℕ) (s : List ℕ) (k e : ℕ) → r ≡ opening_of tag s → r ≡ Ok (k, e) → Opens s k e
opens tag s k e p q = opening_opens tag s k e (sym p ∙ q)
