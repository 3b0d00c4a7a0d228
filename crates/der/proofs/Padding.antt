-- Octets with zeros after them, up to a number of octets, and the numbers that they spell. Theorems. Assumes nothing.
--     pad      the first n octets of s, zeros where it has fewer.     pad_is       as the contracts of `bits` say it
--     pad_turn, pad_done       the loop of `padded`.       two_halves      what `sixteen` answers
use mathlib.Core.Path.{◌≡◌, refl, sym, ap, ◌∙◌}
use mathlib.Core.List.{List, [], ◌∷◌, ◌++◌, append-nil}
use Prim.Native.Nat.{ℕ, zero, suc, ◌+◌, ◌-◌, ◌*◌, ◌/◌, ◌^◌, ◌≤◌, ◌<◌}
use native.Mathlib.Omega.{arith}
use native.Mathlib.Nat.{mod-eq_of_lt, zero-add, suc-add}
use lib.ListN.{length, take, drop, get_or, replicate}
use lib.Seq.{take_all}
use Rattle.number.specs.Octets.{Octets, value}
use Rattle.number.specs.Address.{address_of, sixteen}
use Rattle.number.specs.declared.address.Address.{Address}
use Rattle.number.specs.declared.halves.Width.TheVariants.{Bits128}
use Rattle.number.proofs.Spelling.{Spelled, turn, at_eight}
use Rattle.number.proofs.laws.Octets.{octets_tail, value_below, value_octets_lem, value-append}

-- the first n octets of s, zeros where it has fewer
unfoldable pub pad : ℕ → List ℕ → List ℕ
pad zero s = []
pad (suc n) [] = 0 ∷ pad n []
pad (suc n) (x ∷ s) = x ∷ pad n s

-- of no octets, zeros
pad_none : (n : ℕ) → pad n [] ≡ replicate n 0
unfolding pad
pad_none zero = refl
pad_none (suc n) = ap (λ (t : List ℕ). 0 ∷ t) (pad_none n)

-- as the contracts say it
pub pad_is : (n : ℕ) (s : List ℕ) → pad n s ≡ take n s ++ replicate (n - length s) 0
unfolding pad
pad_is zero s =
    let e : 0 - length s ≡ 0 = omega arith in
    rw e
pad_is (suc n) [] =
    let e : suc n - 0 ≡ suc n = omega arith in
    rw e (pad_none (suc n))
pad_is (suc n) (x ∷ s) =
    let e : suc n - suc (length s) ≡ n - length s = omega arith in
    rw e (ap (λ (t : List ℕ). x ∷ t) (pad_is n s))

-- they are n
pad-length : (n : ℕ) (s : List ℕ) → length (pad n s) ≡ n
unfolding pad
pad-length zero s = refl
pad-length (suc n) [] = ap suc (pad-length n [])
pad-length (suc n) (x ∷ s) = ap suc (pad-length n s)

-- each of them is that of s, or 0
pad_at : (n : ℕ) (s : List ℕ) (k : ℕ) → k < n → get_or (pad n s) k 0 ≡ get_or s k 0
unfolding pad
pad_at zero s k h = absurd (omega arith)
pad_at (suc n) [] zero h = refl
pad_at (suc n) [] (suc k) h = pad_at n [] k (omega arith)
pad_at (suc n) (x ∷ s) zero h = refl
pad_at (suc n) (x ∷ s) (suc k) h = pad_at n s k (omega arith)

-- they are octets
pad_octets : (n : ℕ) (s : List ℕ) → Octets s → Octets (pad n s)
unfolding Octets pad
pad_octets zero s b k = omega arith
pad_octets (suc n) [] b zero = omega arith
pad_octets (suc n) [] b (suc k) = pad_octets n [] b k
pad_octets (suc n) (x ∷ s) b zero = b 0
pad_octets (suc n) (x ∷ s) b (suc k) = pad_octets n s (octets_tail x s b) k

-- in two parts
pad_add : (j k : ℕ) (s : List ℕ) → pad (j + k) s ≡ pad j s ++ pad k (drop j s)
unfolding pad
pad_add zero k s = rw (zero-add k)
pad_add (suc j) k [] = rw (suc-add j k) (ap (λ (t : List ℕ). 0 ∷ t) (pad_add j k [] ∙ ap (λ (t : List ℕ). pad j [] ++ pad k t) (drop_none j)))
  where
    drop_none : (j : ℕ) → ◌≡◌ {A = List ℕ} (drop j []) []
    drop_none zero = refl
    drop_none (suc j) = refl
pad_add (suc j) k (x ∷ s) = rw (suc-add j k) (ap (λ (t : List ℕ). x ∷ t) (pad_add j k s))

-- one octet more of the eight
pub pad_turn : (s : List ℕ) {n k b : ℕ} → Spelled (pad 8 s) n k → k < 8 → b ≡ get_or s k 0 → b < 256 → Spelled (pad 8 s) (n * 256 + b) (k + 1)
pad_turn s {n} {k} {b} v h e r = turn v h b (omega (arith, pad-length 8 s)) (e ∙ sym (pad_at 8 s k h)) r

-- all eight
pub pad_done : (s : List ℕ) {n k : ℕ} → Spelled (pad 8 s) n k → 8 ≤ k → n ≡ value (take 8 s ++ replicate (8 - length s) 0)
pad_done s v h = at_eight v h ∙ ap value (take_all 8 (pad 8 s) (omega (arith, pad-length 8 s)) ∙ pad_is 8 s)

-- sixteen octets are those of the number that they spell
sixteen_is : (w k : ℕ) (p : List ℕ) → w / 8 ≡ k → 16 - k ≡ 0 → 8 * k ≡ w → length p ≡ k → Octets p → sixteen w (value p) ≡ p
unfolding sixteen
sixteen_is w k p f z g e b = rw (f, z, mod-eq_of_lt (rw (e, g) at (value_below p b)), append-nil) (rw e at (value_octets_lem p b))

-- by two numbers
pub two_halves : (s : List ℕ) → ((k : ℕ) → get_or s k 0 < 256) → {a : Address} {u l : ℕ} → u ≡ value (take 8 s ++ replicate (8 - length s) 0) → l ≡ value (take 8 (drop 8 s) ++ replicate (8 - length (drop 8 s)) 0)
    → a ≡ address_of Bits128 (u * 2 ^ 64 + l) → a.octets ≡ take 16 s ++ replicate (16 - length s) 0
unfolding Octets
two_halves s b {a} {u} {l} p q e =
    let f : u ≡ value (pad 8 s) = p ∙ ap value (sym (pad_is 8 s)) in
    let g : l ≡ value (pad 8 (drop 8 s)) = q ∙ ap value (sym (pad_is 8 (drop 8 s))) in
    let v : value (pad 16 s) ≡ u * 2 ^ 64 + l = ap value (pad_add 8 8 s) ∙ value-append (pad 8 s) (pad 8 (drop 8 s)) ∙ rw (pad-length 8 (drop 8 s), ← f, ← g) in
    ap (λ (x : Address). x.octets) e ∙ ap (sixteen 128) (sym v) ∙ sixteen_is 128 16 (pad 16 s) refl refl refl (pad-length 16 s) (pad_octets 16 s b) ∙ pad_is 16 s
