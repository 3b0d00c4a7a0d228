-- Octets and the number that they spell are one another's inverse. Theorems. Assumes nothing.
--     octets-length, octets_value      k octets spell each number below 2 ^ (8 * k)
--     value_below, value_octets_lem        and octets are those of the number that they spell
--     value-append                     the number that two parts spell
--     octets-drop, octets_left, octets_part        octets in parts
--     first_of                         the first of eight octets, by the number that the eight spell
use mathlib.Core.Path.{◌≡◌, refl, sym, ap, ◌∙◌}
use mathlib.Core.List.{List, [], ◌∷◌, ◌++◌}
use Prim.Native.Nat.{ℕ, zero, suc, ◌+◌, ◌-◌, ◌*◌, ◌/◌, ◌%◌, ◌^◌, ◌≤◌, ◌<◌}
use native.Mathlib.Omega.{arith}
use native.Mathlib.Nat.{mod-lt}
use lib.ListN.{length, take, drop, length-append, length-drop, take-append-drop}
use lib.Arith.{digits_lt}
use lib.Pow.{pow_pos, pow-add, split, high, low}
use lib.Seq.{get_or-drop}
use Rattle.number.specs.Octets.{Octets, value, octets}

-- k octets are k
pub octets-length : (k n : ℕ) → length (octets k n) ≡ k
octets-length zero n = refl
octets-length (suc k) n = ap suc (octets-length k (n % 2 ^ (8 * k)))

-- from a number to octets and back
pub octets_value : (k n : ℕ) → n < 2 ^ (8 * k) → value (octets k n) ≡ n
octets_value zero n h = omega arith
octets_value (suc k) n h = rw (octets-length k (n % 2 ^ (8 * k)), octets_value k (n % 2 ^ (8 * k)) (mod-lt n (pow_pos (8 * k)))) (split n (8 * k))

-- octets after the first are octets
pub octets_tail : (x : ℕ) (s : List ℕ) → Octets (x ∷ s) → Octets s
unfolding Octets
octets_tail x s b = λ k. b (suc k)

-- what k octets spell is below 2 ^ (8 * k)
pub value_below : (s : List ℕ) → Octets s → value s < 2 ^ (8 * length s)
unfolding Octets
value_below [] b = omega arith
value_below (x ∷ s) b =
    let e : 8 * suc (length s) ≡ 8 + 8 * length s = omega arith in
    rw (e, pow-add 2 8 (8 * length s)) (digits_lt (b 0) (value_below s (octets_tail x s b)))

-- from octets to a number and back
pub value_octets_lem : (s : List ℕ) → Octets s → octets (length s) (value s) ≡ s
value_octets_lem [] b = refl
value_octets_lem (x ∷ s) b =
    let t = octets_tail x s b in
    let l = value_below s t in
    rw (high x (8 * length s) l, low x (8 * length s) l) (ap (λ (y : List ℕ). x ∷ y) (value_octets_lem s t))

-- the first part is worth as much more as the second has octets
pub value-append : (s t : List ℕ) → value (s ++ t) ≡ value s * 2 ^ (8 * length t) + value t
value-append [] t = omega arith
value-append (x ∷ s) t =
    let e : 8 * length (s ++ t) ≡ 8 * length s + 8 * length t = omega (arith, length-append s t) in
    rw (e, pow-add 2 (8 * length s) (8 * length t), value-append s t) (omega arith)

-- octets without the first ones
pub octets-drop : (n : ℕ) (s : List ℕ) → Octets s → Octets (drop n s)
unfolding Octets
octets-drop n s b k = rw get_or-drop (b (n + k))

-- the first of two parts
pub octets_left : (s t : List ℕ) → Octets (s ++ t) → Octets s
unfolding Octets
octets_left [] t b k = omega arith
octets_left (x ∷ s) t b zero = b zero
octets_left (x ∷ s) t b (suc k) = octets_left s t (octets_tail x (s ++ t) b) k

-- octets from k on, n of them
pub octets_part : (k n : ℕ) (s : List ℕ) → Octets s → Octets (take n (drop k s))
octets_part k n s o = octets_left (take n (drop k s)) (drop n (drop k s)) (rw take-append-drop (octets-drop k s o))

-- the first k of eight octets, by the number that the eight spell
pub first_of : (k : ℕ) (t : List ℕ) → Octets t → k ≤ 8 → length t ≡ 8 → value t / 2 ^ (64 - 8 * k) ≡ value (take k t)
first_of k t o h l =
    let n : 8 * length (drop k t) ≡ 64 - 8 * k = omega (arith, length-drop k t) in
    let b : value (drop k t) < 2 ^ (64 - 8 * k) = rw n at (value_below (drop k t) (octets-drop k t o)) in
    let e : value t ≡ value (take k t) * 2 ^ (64 - 8 * k) + value (drop k t) = ap value (sym (take-append-drop k t)) ∙ rw n at (value-append (take k t) (drop k t)) in
    ap (λ (y : ℕ). y / 2 ^ (64 - 8 * k)) e ∙ high (value (take k t)) (64 - 8 * k) b
