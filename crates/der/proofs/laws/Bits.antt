-- The contents of a BIT STRING, both ways. Theorems. Assumes nothing.
--     bits_read, bits_of_lem       what `bits_of` writes is read, and what is read was written by `bits_of`
--     bits_size_lem        how many octets it takes
--     cut_is, cut_was, cut_bad     octets of which some bits are left over: which are taken, and as what
use mathlib.Core.Path.{◌≡◌, refl, sym, ap, ap₂, ◌∙◌}
use mathlib.Core.List.{List, [], ◌∷◌}
use mathlib.Core.Bool.{Bool, true, false}
use Prim.Native.Nat.{ℕ, suc, ◌+◌, ◌-◌, ◌*◌, ◌/◌, ◌%◌, ◌^◌, ◌≤◌, ◌<◌}
use native.Mathlib.Omega.{arith}
use native.Mathlib.Nat.{zero-mod, zero-div, mul-mod_left}
use lib.ListN.{length}
use lib.Dec.{ltb, eqb}
use lib.Pow.{split, field, mod-mod-pow, mod-pow-add, shr_lt, shl_lt, shl-shr}
use borrow.Author.Tests.{le-ltb, eq-eqb, ltb-false, eqb-true}
use Rattle.number.specs.Tests.{pick}
use Rattle.number.specs.Octets.{Octets, value, octets}
use Rattle.number.proofs.Picks.{pick_not, pick_is}
use Rattle.number.proofs.laws.Octets.{octets-length, octets_value, octets_tail, value_below, value_octets_lem}
use Rattle.der.specs.Bits.{bits_of, bits_size, begun, bad, cut, read_bits}

-- a number of w bits that begins with n bits and goes on with zeros
pub record Begins (w n x : ℕ) : Type 0 where
  pub fits : n ≤ w
  pub below : x < 2 ^ w
  pub zeros : x % 2 ^ (w - n) ≡ 0

-- zeros below 2 ^ (u + j), in two steps
module _ (u j : ℕ) where
  -- the lower ones
  zeros_low : (x : ℕ) → x % 2 ^ (u + j) ≡ 0 → x % 2 ^ j ≡ 0
  zeros_low x h = sym (mod-mod-pow x u j) ∙ ap (λ (y : ℕ). y % 2 ^ j) h ∙ zero-mod (2 ^ j)

  -- the upper ones
  zeros_high : (x : ℕ) → x % 2 ^ (u + j) ≡ 0 → x / 2 ^ j % 2 ^ u ≡ 0
  zeros_high x h = sym (field x u j) ∙ ap (λ (y : ℕ). y / 2 ^ j) h ∙ zero-div (2 ^ j)

  -- and both
  zeros_join : (v : ℕ) → v % 2 ^ u ≡ 0 → v * 2 ^ j % 2 ^ (u + j) ≡ 0
  zeros_join v h = rw (mod-pow-add (v * 2 ^ j) u j, shl-shr v j, h, mul-mod_left v (2 ^ j)) (omega arith)

-- a number that ends in zeros, without them and with them again
zeros_whole : (x j : ℕ) → x % 2 ^ j ≡ 0 → x / 2 ^ j * 2 ^ j ≡ x
zeros_whole x j h = omega (arith, split x j)

-- a refusal is no answer
no_bits_lem : {n x : ℕ} → bad ≡ begun n x → ⊥
no_bits_lem e = let z : ◌≡◌ {A = ℕ} 0 1 = cc in omega arith

-- octets s, of which u bits are left over, of at most w: the rules
pub record Cut (w u : ℕ) (s : List ℕ) : Type 0 where
  pub seven : u ≤ 7
  pub some : u ≤ 8 * length s
  pub fits : 8 * length s - u ≤ w
  pub zeros : value s % 2 ^ u ≡ 0

module _ (w u : ℕ) (s : List ℕ) where
  -- within the rules they are taken
  pub cut_is : Cut w u s → cut w u s ≡ begun (8 * length s - u) (value s * 2 ^ (w - 8 * length s))
  unfolding cut
  cut_is h = rw (le-ltb 7 u h.seven, le-ltb (8 * length s) u h.some, le-ltb w (8 * length s - u) h.fits, eq-eqb _ _ h.zeros)

  -- and what was taken is within them
  pub cut_was : (n x : ℕ) → cut w u s ≡ begun n x → Cut w u s × (n ≡ 8 * length s - u) × (x ≡ value s * 2 ^ (w - 8 * length s))
  unfolding cut
  cut_was n x e =
      let a = pick_not (ltb 7 u) _ bad _ no_bits_lem e in
      let b = pick_not (ltb (8 * length s) u) _ bad _ no_bits_lem a.1 in
      let c = pick_not (ltb w (8 * length s - u)) _ bad _ no_bits_lem b.1 in
      let d = pick_is (eqb (value s % 2 ^ u) 0) _ _ bad no_bits_lem c.1 in
      let g = d.1 in
      (record { seven = ltb-false _ _ a.0; some = ltb-false _ _ b.0; fits = ltb-false _ _ c.0; zeros = eqb-true _ _ d.0 }, cc, cc)

  -- against one of them they are not
  pub cut_bad : (Cut w u s → ⊥) → cut w u s ≡ bad
  unfolding cut
  cut_bad never = go (ltb 7 u) (ltb (8 * length s) u) (ltb w (8 * length s - u)) (eqb (value s % 2 ^ u) 0) refl refl refl refl
    where
      go : (a b c d : Bool) → ltb 7 u ≡ a → ltb (8 * length s) u ≡ b → ltb w (8 * length s - u) ≡ c → eqb (value s % 2 ^ u) 0 ≡ d
          → pick a bad (pick b bad (pick c bad (pick d (begun (8 * length s - u) (value s * 2 ^ (w - 8 * length s))) bad))) ≡ bad
      go true b c d e f g h = refl
      go false true c d e f g h = refl
      go false false true d e f g h = refl
      go false false false true e f g h = absurd (never (record { seven = ltb-false _ _ e; some = ltb-false _ _ f; fits = ltb-false _ _ g; zeros = eqb-true _ _ h }))
      go false false false false e f g h = refl

-- k octets, u of whose bits are left over, and j bits of zeros
module _ (w n x k u j : ℕ) (wide : w ≡ 8 * k + j) (size : 8 * k ≡ n + u) (seven : u ≤ 7) where
  -- are read as they were written
  cut_octets : Begins w n x → cut w u (octets k (x / 2 ^ j)) ≡ begun n x
  cut_octets h =
      let l : length (octets k (x / 2 ^ j)) ≡ k = octets-length k (x / 2 ^ j) in
      let b : x < 2 ^ (8 * k + j) = rw wide at h.below in
      let v : value (octets k (x / 2 ^ j)) ≡ x / 2 ^ j = octets_value k (x / 2 ^ j) (shr_lt (8 * k) j b) in
      let e : w - n ≡ u + j = omega arith in
      let z : x % 2 ^ (u + j) ≡ 0 = rw e at h.zeros in
      let f : w - 8 * length (octets k (x / 2 ^ j)) ≡ j = omega arith in
      cut_is w u (octets k (x / 2 ^ j)) (record { seven = seven; some = omega arith; fits = omega (arith, h.fits); zeros = rw v (zeros_high u j x z) })
      ∙ ap₂ begun (omega arith) (rw (v, f) (zeros_whole x j (zeros_low u j x z)))

-- what was written is read
pub bits_read : (w n x : ℕ) → w % 8 ≡ 0 → Begins w n x → read_bits w (bits_of w n x) ≡ begun n x
unfolding read_bits bits_of
bits_read w n x m h =
    let f = h.fits in
    rw (le-ltb (suc (length (octets ((n + 7) / 8) (x / 2 ^ (w - 8 * ((n + 7) / 8)))))) 1 (omega arith))
    (cut_octets w n x ((n + 7) / 8) (8 * ((n + 7) / 8) - n) (w - 8 * ((n + 7) / 8)) (omega arith) (omega arith) (omega arith) h)

-- what the octets begin
spelled : (w n x u j : ℕ) (s : List ℕ) → w ≡ 8 * length s + j → 8 * length s ≡ n + u → x ≡ value s * 2 ^ j → value s % 2 ^ u ≡ 0 → Octets s → Begins w n x
spelled w n x u j s wide size e z b =
    let d : w - n ≡ u + j = omega arith in
    record { fits = omega arith; below = rw (e, wide) (shl_lt (8 * length s) j (value_below s b)); zeros = rw (d, e) (zeros_join u j (value s) z) }

-- what is read was written
pub bits_of_lem : (w n x : ℕ) (c : List ℕ) → w % 8 ≡ 0 → Octets c → read_bits w c ≡ begun n x → (c ≡ bits_of w n x) × Begins w n x
unfolding read_bits bits_of
bits_of_lem w n x [] m b h = absurd (no_bits_lem h)
bits_of_lem w n x (u ∷ s) m b h =
    let a = pick_not (ltb (suc (length s)) 1) (begun n x) bad _ no_bits_lem h in
    let (d, p, q) = cut_was w u s n x a.1 in
    let i = d.seven in let o = d.some in let f = d.fits in
    let t = octets_tail u s b in
    let e : (n + 7) / 8 ≡ length s = omega arith in
    let v : x / 2 ^ (w - 8 * length s) ≡ value s = ap (λ (z : ℕ). z / 2 ^ (w - 8 * length s)) q ∙ shl-shr (value s) (w - 8 * length s) in
    let g : 8 * length s - n ≡ u = omega arith in
    (rw (e, v, g, value_octets_lem s t), spelled w n x u (w - 8 * length s) s (omega arith) (omega arith) q d.zeros t)

-- how many octets it takes
pub bits_size_lem : (w n x : ℕ) → length (bits_of w n x) ≡ bits_size n
unfolding bits_of bits_size
bits_size_lem w n x = omega (arith, octets-length ((n + 7) / 8) (x / 2 ^ (w - 8 * ((n + 7) / 8))))
