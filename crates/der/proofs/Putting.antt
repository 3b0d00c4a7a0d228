-- A head written into a run of octets, as the code of `put_head` writes it. Theorems. Assumes nothing.
--     at_0 .. at_3     the places that the code writes lie in the run
--     put_none, put_out    nothing is written.      put_one, put_two, put_three      a head is
use mathlib.Core.Path.{◌≡◌, refl, sym, ◌∙◌}
use mathlib.Core.List.{List, [], ◌∷◌}
use mathlib.Core.Bool.{Bool, true, false}
use Prim.Native.Nat.{ℕ, suc, ◌+◌, ◌-◌, ◌/◌, ◌%◌, ◌≤◌, ◌<◌}
use native.Mathlib.Omega.{arith}
use native.Mathlib.Numerals.{add-one}
use borrow.Author.Tests.{lt-ltb, le-ltb, ltb-true}
use lib.Dec.{ltb}
use lib.ListN.{length, set}
use lib.Seq.{sets, sets-eq}
use Rattle.number.specs.Tests.{pick}
use Rattle.der.specs.Head.{length_octets, head_octets, head_size}
use Rattle.der.specs.Written.{written, head_written}
use Rattle.der.proofs.laws.Heads.{one, two, three, head_size_lem}

-- k octets of a head at `at`, in l octets
module _ (k n at l : ℕ) (e : k ≡ head_size n) (h : k ≤ l) (g : at ≤ l - k) where
  -- how many octets there are, by what the tests say of n
  least : (2 ≤ k) × (128 ≤ n → 3 ≤ k) × (256 ≤ n → 4 ≤ k)
  unfolding head_size
  least = go (ltb n 128) (ltb n 256) refl refl e
    where
      go : (a b : Bool) → ltb n 128 ≡ a → ltb n 256 ≡ b → k ≡ pick a 2 (pick b 3 4) → (2 ≤ k) × (128 ≤ n → 3 ≤ k) × (256 ≤ n → 4 ≤ k)
      go true b p q e = let z = ltb-true n 128 p in (omega arith, (λ x. absurd (omega arith)), (λ x. absurd (omega arith)))
      go false true p q e = let z = ltb-true n 256 q in (omega arith, (λ x. omega arith), (λ x. absurd (omega arith)))
      go false false p q e = (omega arith, (λ x. omega arith), (λ x. omega arith))

  -- the tag's place
  pub at_0 : at < l
  at_0 = omega (arith, least.0)

  -- the first octet of the length
  pub at_1 : at + 1 < l
  at_1 = omega (arith, least.0)

  -- the second, where there is one
  pub at_2 : 128 ≤ n → at + 2 < l
  at_2 p = omega (arith, least.1 p)

  -- and the third
  pub at_3 : 256 ≤ n → at + 3 < l
  at_3 p = omega (arith, least.2 p)

-- nothing is written
module _ (out : List ℕ) (at tag n : ℕ) where
  -- the length is above 65,535
  pub put_none : 65535 < n → out ≡ head_written out at tag n
  unfolding head_written
  put_none h = rw (lt-ltb 65535 n h)

  -- the head does not fit
  pub put_out : {k : ℕ} → n ≤ 65535 → k ≡ head_size n → length out < at + k → out ≡ head_written out at tag n
  unfolding head_written written
  put_out {k} h e l =
      let p : length out < at + length (head_octets tag n) = omega (arith, head_size_lem tag n) in
      rw (le-ltb 65535 n h, lt-ltb (length out) (at + length (head_octets tag n)) p)

  -- as the code tests it
  pub put_long : {k : ℕ} → n ≤ 65535 → k ≡ head_size n → length out < k → out ≡ head_written out at tag n
  put_long h e l = put_out h e (omega arith)

  -- it begins too late
  pub put_past : {k : ℕ} → n ≤ 65535 → k ≡ head_size n → k ≤ length out → length out - k < at → out ≡ head_written out at tag n
  put_past h e l g = put_out h e (omega arith)

  -- a head of k octets is
  module _ {k : ℕ} (b : n ≤ 65535) (e : k ≡ head_size n) (l : k ≤ length out) (g : at ≤ length out - k) where
    -- its octets one by one are its octets at once
    head_put : (o : List ℕ) → length_octets n ≡ o → sets out at (tag ∷ o) ≡ head_written out at tag n
    unfolding head_written written head_octets
    head_put o q =
        let s : k ≡ suc (length (length_octets n)) = e ∙ sym (head_size_lem tag n) in
        rw (le-ltb 65535 n b, le-ltb (length out) (at + suc (length (length_octets n))) (omega arith), q)
        (sets-eq (tag ∷ o) out at (rw (← q) (omega arith)))

    -- with a length of one octet
    pub put_one : {x : ℕ} → n < 128 → x ≡ n → set (set out at tag) (at + 1) x ≡ head_written out at tag n
    put_one h p = rw (p, add-one) (head_put (n ∷ []) (one n h))

    -- of two
    pub put_two : {x : ℕ} → 128 ≤ n → n < 256 → x ≡ n → set (set (set out at tag) (at + 1) 0x81) (at + 2) x ≡ head_written out at tag n
    put_two h i p =
        let f : at + 2 ≡ suc (suc at) = omega arith in
        rw (p, add-one, f) (head_put (0x81 ∷ n ∷ []) (two n h i))

    -- of three
    pub put_three : {x y : ℕ} → 256 ≤ n → x ≡ n / 256 → y ≡ n % 256 → set (set (set (set out at tag) (at + 1) 0x82) (at + 2) x) (at + 3) y ≡ head_written out at tag n
    put_three h p q =
        let f : at + 2 ≡ suc (suc at) = omega arith in
        let i : at + 3 ≡ suc (suc (suc at)) = omega arith in
        rw (p, q, add-one, f, i) (head_put (0x82 ∷ n / 256 ∷ n % 256 ∷ []) (three n h))
