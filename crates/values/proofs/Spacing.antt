-- What the code of `space_of` and of `space_at` finds, in the terms of the definitions. Theorems. Assumes nothing.
--     space_size, space_low, space_high, space_plain, space_safi      the exits of `space_of`.      sized_least      its octets are there
--     opening_refused, contents_refused, order_refused, space_found     the exits of `space_at`, each with the bounds of what it says
use mathlib.Core.Path.{◌≡◌, sym, ap, ◌∙◌}
use mathlib.Core.List.{List}
use mathlib.Core.Bool.{Bool, true, false, not, false≢true}
use Prim.Native.Nat.{ℕ, ◌+◌, ◌-◌, ◌*◌, ◌≤◌, ◌<◌}
use native.Mathlib.Omega.{arith}
use lib.ListN.{length, get_or, take, drop}
use lib.Dec.{ltb, leb}
use borrow.Author.Tests.{lt-ltb, le-ltb, ltb-false, not-true, not-false}
use Rattle.number.specs.Tests.{pick}
use Rattle.number.specs.Octets.{Octets}
use Rattle.number.specs.declared.refusal.Refusal.{Refusal}
use Rattle.number.specs.declared.refusal.Refusal.TheVariants as refusal
use Rattle.number.proofs.Picks.{flag, pick_not, pick_is}
use Rattle.number.proofs.laws.Octets.{octets_part}
use Rattle.der.specs.Tags.{OCTET_STRING}
use Rattle.der.specs.Strings.{is_sized}
use Rattle.der.specs.Opening.{opening_of}
use Rattle.der.specs.Parts.{is, isnt, part}
use Rattle.der.proofs.laws.Parts.{no_is}
use Rattle.values.specs.Faults.{at}
use Rattle.values.specs.Blocks.{afi, space_of, not_below, space_at}
use Rattle.values.specs.Seen.{Reached, space_of_seen}
use Rattle.values.proofs.Joins.{Refused, tag_refused, tag_isnt, tag_took, sift_refused, sift_isnt, sift_took}
use Rattle.der.specs.Opening.{Opening}
use Rattle.std.specs.Prelude.{Result, Ok, Err}

-- THE CONTENTS

module _ (c : List ℕ) {f : Bool} (e : f ≡ is_sized c 2 3) where
  -- they are not two or three octets
  pub space_size : not f ≡ true → isnt (at 0 refusal.Contents) ≡ space_of c
  unfolding space_of
  space_size h = rw (flag e (not-true f h))

  -- they are at least two
  pub sized_least : not f ≡ false → 2 ≤ length c
  unfolding is_sized
  sized_least h = ltb-false (length c) 2 (pick_not (ltb (length c) 2) true false (leb (length c) 3) false≢true (flag e (not-false f h))).0

  module _ (g : not f ≡ false) {x y : ℕ} (p : x ≡ get_or c 0 0) (q : y ≡ get_or c 1 0) where
    -- the AFI is 0, or above 2
    pub space_low : x * 256 + y < 1 → isnt (at 0 refusal.Afi) ≡ space_of c
    unfolding space_of
    space_low l = rw (flag e (not-false f g), lt-ltb (afi c) 1 (omega arith))

    pub space_high : 2 < x * 256 + y → isnt (at 0 refusal.Afi) ≡ space_of c
    unfolding space_of
    space_high h = rw (flag e (not-false f g), le-ltb (afi c) 1 (omega arith), lt-ltb 2 (afi c) (omega arith))

    -- it is 1 or 2, with no SAFI and with one
    pub space_plain : 1 ≤ x * 256 + y → x * 256 + y ≤ 2 → length c < 3 → is ((x * 256 + y) * 1024) ≡ space_of c
    unfolding space_of
    space_plain l h n = rw (flag e (not-false f g), le-ltb (afi c) 1 (omega arith), le-ltb 2 (afi c) (omega arith), lt-ltb (length c) 3 n) (let z : (x * 256 + y) * 1024 ≡ afi c * 1024 + 0 = omega arith in ap is z)

    pub space_safi : {z : ℕ} → z ≡ get_or c 2 0 → 1 ≤ x * 256 + y → x * 256 + y ≤ 2 → 3 ≤ length c → is ((x * 256 + y) * 1024 + (1 + z)) ≡ space_of c
    unfolding space_of
    space_safi u l h n = rw (flag e (not-false f g), le-ltb (afi c) 1 (omega arith), le-ltb 2 (afi c) (omega arith), le-ltb (length c) 3 n) (rw (p, q, u))

-- a space is below 4096: its SAFI is an octet
space_bound : (c : List ℕ) (x : ℕ) → get_or c 2 0 < 256 → space_of c ≡ is x → x ≤ 4095
unfolding space_of
space_bound c x b e =
    let (s, p) = pick_is (is_sized c 2 3) _ _ (isnt (at 0 refusal.Contents)) no_is e in
    let (l, q) = pick_not (ltb (afi c) 1) _ (isnt (at 0 refusal.Afi)) _ no_is p in
    let (h, r) = pick_not (ltb 2 (afi c)) _ (isnt (at 0 refusal.Afi)) _ no_is q in
    let u : afi c * 1024 + pick (ltb (length c) 3) 0 (1 + get_or c 2 0) ≡ x = cc in
    go (ltb (length c) 3) (ltb-false 2 (afi c) h) u
  where
    go : (t : Bool) → afi c ≤ 2 → afi c * 1024 + pick t 0 (1 + get_or c 2 0) ≡ x → x ≤ 4095
    go true h u = omega arith
    go false h u = omega arith

-- THE ELEMENT

module _ (least : ℕ) (s : List ℕ) (o : Opening) (p : o ≡ opening_of OCTET_STRING s) where
  -- there is none
  pub opening_refused : (r : Refusal) → o ≡ Err r → Refused (space_at least s) (length s) (at 0 r)
  unfolding space_at
  opening_refused r q = sift_refused (not_below least) _ (length s) (at 0 r) (tag_refused OCTET_STRING s p (λ k. space_of) r q)

  module _ (k e : ℕ) (q : o ≡ Ok (k, e)) (r : Result ℕ Refusal) where
    -- its contents are no space
    pub contents_refused : (z : Refusal) → r ≡ Err z → space_of_seen r ≡ space_of (take (e - k) (drop k s)) → Refused (space_at least s) (length s) (at 0 z)
    unfolding space_at
    contents_refused z u h = sift_refused (not_below least) _ (length s) (at 0 z) (tag_isnt OCTET_STRING s p k e q (λ k. space_of) (at 0 z) (sym h ∙ rw u) (omega arith))

    module _ (x : ℕ) (u : r ≡ Ok x) (h : space_of_seen r ≡ space_of (take (e - k) (drop k s))) where
      -- it is not above the one before
      pub order_refused : x < least → Refused (space_at least s) (length s) (at 0 refusal.FamilyOrder)
      unfolding space_at
      order_refused l = sift_isnt (not_below least) _ s x e (tag_took OCTET_STRING s p k e q (λ k. space_of) x (sym h ∙ rw u)) refusal.FamilyOrder (rw (lt-ltb x least l))

      -- it is
      pub space_found : least ≤ x → ((i : ℕ) → get_or s i 0 < 256) → (part x (drop e s) ≡ space_at least s) × ((x ≤ 4095) × Reached (length s) e)
      unfolding space_at Octets
      space_found l b =
          let w : space_of (take (e - k) (drop k s)) ≡ is x = sym h ∙ rw u in
          let g : Octets (take (e - k) (drop k s)) = octets_part k (e - k) s b in
          let i = sift_took (not_below least) _ s x e (tag_took OCTET_STRING s p k e q (λ k. space_of) x w) x (rw (le-ltb x least l)) in
          (i.told, (space_bound (take (e - k) (drop k s)) x (g 2) w, (i.some, i.inside)))
