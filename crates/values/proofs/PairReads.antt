-- `pair_of` and `pair_at`, whatever one part is: where its answers stand, and that they are what the definitions say, if the answers of one part are. Theorems. Assumes nothing.
--     place_left, place_fits      the place of a refusal of what is left after k octets
--     second_refused, second_over, second_last      the second part: it is refused, octets are left after it, or none
--     contents_read, range_read      the answers
use mathlib.Core.Path.{◌≡◌, refl, sym, ap, subst, ◌∙◌}
use mathlib.Core.List.{List}
use mathlib.Core.Bool.{Bool, true, false}
use Prim.Native.Nat.{ℕ, ◌+◌, ◌-◌, ◌^◌, ◌≤◌, ◌<◌}
use native.Mathlib.Omega.{arith}
use lib.Dec.{ltb}
use lib.ListN.{length, take, drop, length-take, length-drop}
use borrow.Author.Tests.{ltb-true, ltb-false, lt-ltb, le-ltb}
use Rattle.std.specs.Prelude.{Ok, Err, IfErr}
use Rattle.number.specs.Tests.{pick}
use Rattle.number.specs.declared.refusal.Refusal.TheVariants as refusal
use Rattle.number.proofs.Picks.{rest_of}
use Rattle.der.specs.Tags.{SEQUENCE}
use Rattle.der.specs.Opening.{Opening, opening_of}
use Rattle.der.specs.Parts.{Contents, Part, tagged}
use Rattle.der.specs.Parts as parts
use Rattle.der.proofs.Tagged.{tagged_is}
use Rattle.values.specs.Faults.{Fault, at, later, moved, Read, Taken}
use Rattle.values.specs.Seen.{Within, taken_seen, read_seen, both_seen}
use Rattle.values.specs.Pairs.{ended, PairOf, Opened, PairAt}
use Rattle.values.proofs.Joins.{Refused, Took, tag_refused, joined, join_first, join_second, join_over, join_both}

-- the place of a refusal of what is left after k octets
pub place_left : (k p : ℕ) (s : List ℕ) → k ≤ length s → p ≤ length (take (length s - k) (drop k s)) → k + p ≤ length s
place_left k p s l h = omega (arith, length-take (length s - k) (drop k s), length-drop k s)

-- it fits
pub place_fits : {X : Type 0} (k : ℕ) (s : List ℕ) (r : Taken X) → length s < 2 ^ 64 → k ≤ length s → Within (length (take (length s - k) (drop k s))) r → IfErr r (λ f. k + f.place < 2 ^ 64)
place_fits k s (Ok p) z l h = tt
place_fits k s (Err f) z l h = omega (arith, place_left k f.place s l h)

-- the second part, after the first k octets
module _ {X : Type 0} (One : List ℕ → Taken X → Type 0) (s : List ℕ) (x : X) (k : ℕ) (b : Taken X) (r : Read (X × X)) (h : One s (Ok (x, k))) (g : One (take (length s - k) (drop k s)) b) where
  rest_read : One (drop k s) b
  rest_read = subst (λ (z : List ℕ). One z b) (rest_of k s) g

  pub second_refused : (f : Fault) → b ≡ Err f → r ≡ Err (later k f) → PairOf One s r
  second_refused f e q = (Ok (x, k), h, (b, rest_read, rw e q))

  pub second_over : (y : X) (j : ℕ) → b ≡ Ok (y, j) → j < length (take (length s - k) (drop k s)) → r ≡ Err (at (k + j) refusal.OctetsLeft) → PairOf One s r
  second_over y j e l q =
      let u : ltb (k + j) (length s) ≡ true = lt-ltb (k + j) (length s) (omega (arith, l, length-take (length s - k) (drop k s), length-drop k s)) in
      (Ok (x, k), h, (b, rest_read, rw (e, u) q))

  pub second_last : (y : X) (j : ℕ) → b ≡ Ok (y, j) → length (take (length s - k) (drop k s)) ≤ j → r ≡ Ok (x, y) → PairOf One s r
  second_last y j e l q =
      let u : ltb (k + j) (length s) ≡ false = le-ltb (k + j) (length s) (omega (arith, l, length-take (length s - k) (drop k s), length-drop k s)) in
      (Ok (x, k), h, (b, rest_read, rw (e, u) q))

-- an element, by what was answered of its contents
ended_seen : {X Y : Type 0} (see : X → Y) (k e : ℕ) (s : List ℕ) (b : Read X) → taken_seen see s (ended k e b) ≡ parts.closed (moved k (read_seen see b)) (drop e s)
ended_seen see k e s (Ok x) = refl
ended_seen see k e s (Err f) = refl

-- if what one part is read as is what dec says of it
module _ {X Y : Type 0} (see : X → Y) (dec : List ℕ → Part Y Fault) (One : List ℕ → Taken X → Type 0)
    (says : (s : List ℕ) (r : Taken X) → One s r → (taken_seen see s r ≡ dec s) × Within (length s) r) where
  one_refused : (s : List ℕ) (f : Fault) → One s (Err f) → Refused (dec s) (length s) f
  one_refused s f h = let (t, i) = says s (Err f) h in record { told = t; inside = i }

  one_took : (s : List ℕ) (x : X) (k : ℕ) → One s (Ok (x, k)) → Took (dec s) s (see x) k
  one_took s x k h = let (t, (l, i)) = says s (Ok (x, k)) h in record { told = t; some = l; inside = i }

  -- the second part: octets are left after it, or none
  module _ (s : List ℕ) (x : X) (k : ℕ) (t : Took (dec s) s (see x) k) (y : X) (j : ℕ) (g : One (take (length s - k) (drop k s)) (Ok (y, j))) where
    second_read : (b : Bool) → ltb (k + j) (length s) ≡ b → read_seen (both_seen see) (pick b (Err (at (k + j) refusal.OctetsLeft)) (Ok (x, y))) ≡ joined dec (λ x. dec) s
    second_read true u = (join_over dec (λ x. dec) s (see x) k t (see y) j (one_took _ y j g) (omega (arith, ltb-true (k + j) (length s) u, t.inside, length-take (length s - k) (drop k s), length-drop k s))).told
    second_read false u = join_both dec (λ x. dec) s (see x) k t (see y) j (one_took _ y j g) (omega (arith, ltb-false (k + j) (length s) u, t.inside, length-take (length s - k) (drop k s), length-drop k s))

  -- the contents of a range
  pub contents_read : (s : List ℕ) (r : Read (X × X)) → PairOf One s r → read_seen (both_seen see) r ≡ joined dec (λ x. dec) s
  contents_read s r (Err f, h, e) = rw e (join_first dec (λ x. dec) s f (one_refused s f h)).told
  contents_read s r (Ok (x, k), h, (Err f, g, e)) =
      rw e (join_second dec (λ x. dec) s (see x) k (one_took s x k h) f (one_refused _ f (subst (λ (z : List ℕ). One z (Err f)) (sym (rest_of k s)) g))).told
  contents_read s r (Ok (x, k), h, (Ok (y, j), g, e)) =
      rw e (second_read s x k (one_took s x k h) y j (subst (λ (z : List ℕ). One z (Ok (y, j))) (sym (rest_of k s)) g) (ltb (k + j) (length s)) refl)

  -- the range
  range_says : (s : List ℕ) (o : Opening) (r : Taken (X × X)) → o ≡ opening_of SEQUENCE s → Opened One s o r
      → taken_seen (both_seen see) s r ≡ tagged (at 0) SEQUENCE (λ k c. moved k (joined dec (λ x. dec) c)) s
  range_says s (Err f) r p e = rw e (tag_refused SEQUENCE s p (λ k c. moved k (joined dec (λ x. dec) c)) f refl).told
  range_says s (Ok (k, e)) r p (b, h, u) =
      rw u
      (ended_seen (both_seen see) k e s b
      ∙ ap (λ (o : Contents (Y × Y) Fault). parts.closed (moved k o) (drop e s)) (contents_read (take (e - k) (drop k s)) b h)
      ∙ sym (tagged_is (at 0) SEQUENCE (λ k c. moved k (joined dec (λ x. dec) c)) s k e (sym p)))

pub range_read : {X Y : Type 0} {One : List ℕ → Taken X → Type 0} (see : X → Y) (dec : List ℕ → Part Y Fault) (s : List ℕ) (r : Taken (X × X)) → PairAt One s r
    → ((s : List ℕ) (r : Taken X) → One s r → (taken_seen see s r ≡ dec s) × Within (length s) r) → taken_seen (both_seen see) s r ≡ tagged (at 0) SEQUENCE (λ k c. moved k (joined dec (λ x. dec) c)) s
range_read {One = One} see dec s r p says = range_says see dec One says s (opening_of SEQUENCE s) r refl p.opened
