-- Octets with zeros after them, the first and the last of them, and the last bits of octets. Theorems. Assumes nothing.
--     octets-append, octets_right      octets in parts
--     octets_parts     the octets of a number in two parts.        sixteen_parts, first_octets, last_octets       those of an address
--     octets_zeros     the octets of a number with as many zeros after it
--     value_end        the last bits of a number are those of its last octet
use mathlib.Core.Path.{◌≡◌, refl, sym, ap, ap₂, ◌∙◌}
use mathlib.Core.List.{List, [], ◌∷◌, ◌++◌, append_assoc}
use Prim.Native.Nat.{ℕ, zero, suc, ◌+◌, ◌-◌, ◌*◌, ◌/◌, ◌%◌, ◌^◌, ◌≤◌, ◌<◌}
use native.Mathlib.Omega.{arith}
use native.Mathlib.Nat.{mod-lt, mod-eq_of_lt, lt_of_lt_of_le, zero-add, suc-add}
use lib.ListN.{length, get_or, take, drop, replicate, length-append, length-replicate}
use lib.Pow.{pow_pos, pow_mono, shr-shr, field, mod-mod-pow}
use lib.Seq.{take_at, drop_at}
use Rattle.number.specs.Octets.{Octets, value, octets}
use Rattle.number.specs.Address.{sixteen}
use Rattle.number.proofs.Sixteen.{low_mod}
use Rattle.number.proofs.laws.Octets.{octets-length, octets_tail, value_octets_lem, value-append}

-- two lists of octets
pub octets-append : (s t : List ℕ) → Octets s → Octets t → Octets (s ++ t)
unfolding Octets
octets-append [] t b d k = d k
octets-append (x ∷ s) t b d zero = b 0
octets-append (x ∷ s) t b d (suc k) = octets-append s t (octets_tail x s b) d k

-- the second of two parts
pub octets_right : (s t : List ℕ) → Octets (s ++ t) → Octets t
octets_right [] t b = b
octets_right (x ∷ s) t b = octets_right s t (octets_tail x (s ++ t) b)

-- zeros are octets
zeros_octets : (m : ℕ) → Octets (replicate m 0)
unfolding Octets
zeros_octets zero k = omega arith
zeros_octets (suc m) zero = omega arith
zeros_octets (suc m) (suc k) = zeros_octets m k

-- and spell 0
value_zeros : (m : ℕ) → value (replicate m 0) ≡ 0
value_zeros zero = refl
value_zeros (suc m) = omega (arith, value_zeros m)

-- m octets of zeros after s
pub octets_zeros : (s : List ℕ) (m : ℕ) → Octets s → octets (length s + m) (value s * 2 ^ (8 * m)) ≡ s ++ replicate m 0
octets_zeros s m b =
    let l : length (s ++ replicate m 0) ≡ length s + m = length-append s (replicate m 0) ∙ ap (λ (k : ℕ). length s + k) (length-replicate {A = ℕ} m 0) in
    let v : value (s ++ replicate m 0) ≡ value s * 2 ^ (8 * m) = value-append s (replicate m 0) ∙ rw (value_zeros m, length-replicate {A = ℕ} m 0) (omega arith) in
    rw (l, v) at (value_octets_lem (s ++ replicate m 0) (octets-append s (replicate m 0) b (zeros_octets m)))

-- the octets of a number, in two parts
pub octets_parts : (j k n : ℕ) → n < 2 ^ (8 * (j + k)) → octets (j + k) n ≡ octets j (n / 2 ^ (8 * k)) ++ octets k (n % 2 ^ (8 * k))
octets_parts zero k n h = rw (zero-add k, mod-eq_of_lt (rw (zero-add k) at h))
octets_parts (suc j) k n h =
    let e : 8 * (j + k) ≡ 8 * j + 8 * k = omega arith in
    let f : 8 * k + 8 * j ≡ 8 * j + 8 * k = omega arith in
    rw (suc-add j k)
    (ap₂ (λ (x : ℕ) (s : List ℕ). x ∷ s)
    (rw (e, ← f) (sym (shr-shr n (8 * k) (8 * j))))
    (octets_parts j k (n % 2 ^ (8 * (j + k))) (mod-lt n (pow_pos (8 * (j + k)))) ∙ rw (e, field n (8 * j) (8 * k), mod-mod-pow n (8 * j) (8 * k))))

-- the octets of an address of w bits, in two parts and the zeros after them
module _ (w j k x : ℕ) (e : w ≡ 8 * (j + k)) where
  pub sixteen_parts : x < 2 ^ w → sixteen w x ≡ octets j (x / 2 ^ (8 * k)) ++ (octets k (x % 2 ^ (8 * k)) ++ replicate (16 - (j + k)) 0)
  unfolding sixteen
  sixteen_parts b =
      let f : w / 8 ≡ j + k = omega arith in
      rw (f, mod-eq_of_lt b, octets_parts j k x (rw e at b), append_assoc)

  -- the first j octets
  pub first_octets : x < 2 ^ w → take j (sixteen w x) ≡ octets j (x / 2 ^ (8 * k))
  first_octets b = rw (sixteen_parts b) (take_at (octets j (x / 2 ^ (8 * k))) _ j (octets-length j (x / 2 ^ (8 * k))))

  -- the k octets after them, of a number that has no more
  pub last_octets : x < 2 ^ (8 * k) → take k (drop j (sixteen w x)) ≡ octets k x
  last_octets b =
      let l : x < 2 ^ w = lt_of_lt_of_le b (pow_mono {i = 8 * k} {j = w} (omega arith)) in
      rw (sixteen_parts l, mod-eq_of_lt b, drop_at (octets j (x / 2 ^ (8 * k))) (octets k x ++ replicate (16 - (j + k)) 0) j (octets-length j (x / 2 ^ (8 * k))))
      (take_at (octets k x) (replicate (16 - (j + k)) 0) k (octets-length k x))

-- the last bits of octets are those of the last one
pub value_end : (x : ℕ) (s : List ℕ) (u : ℕ) → u ≤ 8 → value (x ∷ s) % 2 ^ u ≡ get_or (x ∷ s) (length s) 0 % 2 ^ u
value_end x [] u h = ap (λ (y : ℕ). y % 2 ^ u) (omega arith)
value_end x (y ∷ s) u h = low_mod (8 * suc (length s)) u x (value (y ∷ s)) (omega arith) ∙ value_end y s u h
