-- The sixteen octets of an address, one by one: once for every width that is a whole number of octets. Theorems. Assumes nothing.
--     width_octets     both widths are such
--     sixteen_at       octet k of the sixteen is `octet_at`
--     octet_lower, octet_upper      an octet of 128 bits in two halves: what the code computes
--     first_sixteen    the bits of a width as the first of 128 have the octets of the number at that width
--     Stored       what holds of the octets that a loop has stored.        all_stored     at the end
use mathlib.Core.Path.{◌≡◌, refl, sym, ap, subst, ◌∙◌}
use mathlib.Core.List.{List, ◌++◌}
use mathlib.Core.Logic.{◌⊎◌, inl, inr}
use Prim.Native.Nat.{ℕ, zero, suc, ◌+◌, ◌-◌, ◌*◌, ◌/◌, ◌%◌, ◌^◌, ◌≤◌, ◌<◌}
use native.Mathlib.Nat.{mod-lt, mul_assoc, mul-add-mod_self_right}
use native.Mathlib.Omega.{arith}
use borrow.Author.Tests.{le-ltb, lt-ltb}
use lib.Pow.{pow_pos, pow-add, high, field, shr_mod, shr-shr, shl-shr, mod-mod-pow}
use lib.ListN.{length, get_or, replicate, length-append, length-replicate, get_or-append}
use lib.Seq.{get_or-append-add, ext_get_or}
use Rattle.number.specs.Halves.{bits}
use Rattle.number.specs.Octets.{octets, octet_at}
use Rattle.number.specs.Address.{sixteen, address_of}
use Rattle.number.specs.declared.address.Address.{Address}
use Rattle.number.specs.declared.halves.Width.{Width}
use Rattle.number.specs.declared.halves.Width.TheVariants.{Bits32, Bits128}
use Rattle.number.proofs.Picks.{below}
use Rattle.number.proofs.laws.Octets.{octets-length}

-- each width is a whole number of octets, and at most sixteen
pub width_octets : (width : Width) → (bits width % 8 ≡ 0) × (bits width ≤ 128)
width_octets Bits32 = omega arith
width_octets Bits128 = omega arith

-- octet k of a number, where the width has one
pub within : (w n k : ℕ) → 8 * k + 8 ≤ w → octet_at w n k ≡ n / 2 ^ (w - (8 * k + 8)) % 2 ^ 8
unfolding octet_at
within w n k h = simp (le-ltb w (8 * k + 8) h)

-- and where it has none
pub past : (w n k : ℕ) → w < 8 * k + 8 → octet_at w n k ≡ 0
unfolding octet_at
past w n k h = simp (lt-ltb w (8 * k + 8) h)

-- eight bits with j below them, of the last b of n
bits_at : (n b j : ℕ) → 8 + j ≤ b → n % 2 ^ b / 2 ^ j % 2 ^ 8 ≡ n / 2 ^ j % 2 ^ 8
bits_at n b j h =
    let e : b ≡ ((b - (8 + j)) + 8) + j = omega arith in
    rw e (ap (λ (x : ℕ). x % 2 ^ 8) (field n ((b - (8 + j)) + 8) j) ∙ mod-mod-pow (n / 2 ^ j) (b - (8 + j)) 8)

-- octet i of the k octets of a number
octets_at : (k i n : ℕ) → i < k → n < 2 ^ (8 * k) → get_or (octets k n) i 0 ≡ n / 2 ^ (8 * (k - suc i)) % 2 ^ 8
octets_at zero i n h b = absurd (omega arith)
octets_at (suc k) zero n h b =
    let e : 8 * suc k ≡ 8 + 8 * k = omega arith in
    let f : suc k - 1 ≡ k = omega arith in
    rw f (sym (shr_mod 8 (8 * k) (rw e at b)))
octets_at (suc k) (suc i) n h b =
    let f : suc k - suc (suc i) ≡ k - suc i = omega arith in
    octets_at k i (n % 2 ^ (8 * k)) (omega arith) (mod-lt n (pow_pos (8 * k))) ∙ rw f (bits_at n (8 * k) (8 * (k - suc i)) (omega arith))

-- zeros are 0 everywhere, and so is what follows them
pub zeros_at : (m i : ℕ) → ◌≡◌ {A = ℕ} (get_or (replicate m 0) i 0) 0
zeros_at zero i = refl
zeros_at (suc m) zero = refl
zeros_at (suc m) (suc i) = zeros_at m i

-- past the width
pub unused : (w n k : ℕ) → w / 8 ≤ k → get_or (sixteen w n) k 0 ≡ 0
unfolding sixteen
unused w n k h =
    let s = octets (w / 8) (n % 2 ^ w) in
    let e : k ≡ length s + (k - w / 8) = omega (arith, octets-length (w / 8) (n % 2 ^ w)) in
    ap (λ (x : ℕ). get_or (s ++ replicate (16 - w / 8) 0) x 0) e ∙ get_or-append-add s (replicate (16 - w / 8) 0) (k - w / 8) 0 ∙ zeros_at (16 - w / 8) (k - w / 8)

-- within it
used : (w n k : ℕ) → w % 8 ≡ 0 → 8 * k + 8 ≤ w → get_or (sixteen w n) k 0 ≡ n / 2 ^ (w - (8 * k + 8)) % 2 ^ 8
unfolding sixteen
used w n k d h =
    let f : 8 * (w / 8 - suc k) ≡ w - (8 * k + 8) = omega arith in
    let g : w ≡ 8 * (w / 8) = omega arith in
    get_or-append (octets (w / 8) (n % 2 ^ w)) (replicate (16 - w / 8) 0) 0 k (omega (arith, octets-length (w / 8) (n % 2 ^ w)))
    ∙ octets_at (w / 8) k (n % 2 ^ w) (omega arith) (subst (λ (x : ℕ). n % 2 ^ w < 2 ^ x) g (mod-lt n (pow_pos w)))
    ∙ bits_at n w (8 * (w / 8 - suc k)) (omega arith)
    ∙ ap (λ (x : ℕ). n / 2 ^ x % 2 ^ 8) f

-- every octet of the sixteen
pub sixteen_at : (w n k : ℕ) → w % 8 ≡ 0 → get_or (sixteen w n) k 0 ≡ octet_at w n k
sixteen_at w n k d = go (below w (8 * k + 8))
  where
    go : (w < 8 * k + 8) ⊎ (8 * k + 8 ≤ w) → get_or (sixteen w n) k 0 ≡ octet_at w n k
    go (inl h) = unused w n k (omega arith) ∙ sym (past w n k h)
    go (inr h) = used w n k d h ∙ sym (within w n k h)

-- and how many there are
pub sixteen-length : (w n : ℕ) → w ≤ 128 → length (sixteen w n) ≡ 16
unfolding sixteen
sixteen-length w n h = simp (length-append, octets-length, length-replicate) (omega arith)

-- the low bits, in a number of two parts
pub low_mod : (k b u l : ℕ) → b ≤ k → (u * 2 ^ k + l) % 2 ^ b ≡ l % 2 ^ b
low_mod k b u l h =
    let e : k ≡ (k - b) + b = omega arith in
    sym (mod-mod-pow (u * 2 ^ k + l) (k - b) b) ∙ rw (← e, mul-add-mod_self_right u (2 ^ k) l) (rw (← e) at (mod-mod-pow l (k - b) b))

-- an octet of two halves of k bits lies in one of them
octet_low : (k u l s : ℕ) → s + 8 ≤ k → (u * 2 ^ k + l) / 2 ^ s % 2 ^ 8 ≡ l / 2 ^ s % 2 ^ 8
octet_low k u l s h = sym (field (u * 2 ^ k + l) 8 s) ∙ ap (λ (x : ℕ). x / 2 ^ s) (low_mod k (8 + s) u l (omega arith)) ∙ field l 8 s

octet_high : (k u l s : ℕ) → l < 2 ^ k → k ≤ s → (u * 2 ^ k + l) / 2 ^ s % 2 ^ 8 ≡ u / 2 ^ (s - k) % 2 ^ 8
octet_high k u l s b h =
    let e : s ≡ k + (s - k) = omega arith in
    ap (λ (x : ℕ). (u * 2 ^ k + l) / 2 ^ x % 2 ^ 8) e ∙ ap (λ (x : ℕ). x % 2 ^ 8) (sym (shr-shr (u * 2 ^ k + l) k (s - k)) ∙ ap (λ (x : ℕ). x / 2 ^ (s - k)) (high u k b))

-- an octet of 128 bits in two halves
module _ (u l k : ℕ) (f : k < 16) where
  -- in the lower half
  pub octet_lower : {r : ℕ} → 120 - 8 * k < 64 → r ≡ l / 2 ^ (120 - 8 * k) % 2 ^ 8 → r ≡ octet_at 128 (u * 2 ^ 64 + l) k
  octet_lower s p =
      let e : 120 - 8 * k ≡ 128 - (8 * k + 8) = omega arith in
      p ∙ sym (octet_low 64 u l (120 - 8 * k) (omega arith)) ∙ rw e (sym (within 128 (u * 2 ^ 64 + l) k (omega arith)))

  -- in the upper half
  pub octet_upper : {r : ℕ} → 64 ≤ 120 - 8 * k → l < 2 ^ 64 → r ≡ u / 2 ^ (120 - 8 * k - 64) % 2 ^ 8 → r ≡ octet_at 128 (u * 2 ^ 64 + l) k
  octet_upper s b p =
      let e : 120 - 8 * k ≡ 128 - (8 * k + 8) = omega arith in
      p ∙ sym (octet_high 64 u l (120 - 8 * k) b s) ∙ rw e (sym (within 128 (u * 2 ^ 64 + l) k (omega arith)))

-- the bits of a width as the first of 128 have the octets of the number at that width
module _ (w n k : ℕ) (d : w % 8 ≡ 0) (h : w ≤ 128) (f : k < 16) where
  first_at : octet_at 128 (n % 2 ^ w * 2 ^ (128 - w)) k ≡ octet_at w n k
  first_at = go (below w (8 * k + 8))
    where
      go : (w < 8 * k + 8) ⊎ (8 * k + 8 ≤ w) → octet_at 128 (n % 2 ^ w * 2 ^ (128 - w)) k ≡ octet_at w n k
      go (inl b) =
          let j : ℕ = 128 - (8 * k + 8) in
          let c : ℕ = (8 * k) - w in
          let e : 128 - w ≡ (c + 8) + j = omega arith in
          let g : n % 2 ^ w * 2 ^ (128 - w) ≡ n % 2 ^ w * 2 ^ c * 2 ^ 8 * 2 ^ j =
          ap (λ (y : ℕ). n % 2 ^ w * 2 ^ y) e
          ∙ ap (λ (y : ℕ). n % 2 ^ w * y) (pow-add 2 (c + 8) j ∙ ap (λ (y : ℕ). y * 2 ^ j) (pow-add 2 c 8))
          ∙ sym (mul_assoc (n % 2 ^ w) (2 ^ c * 2 ^ 8) (2 ^ j))
          ∙ ap (λ (y : ℕ). y * 2 ^ j) (sym (mul_assoc (n % 2 ^ w) (2 ^ c) (2 ^ 8))) in
          within 128 (n % 2 ^ w * 2 ^ (128 - w)) k (omega arith)
          ∙ ap (λ (y : ℕ). y / 2 ^ j % 2 ^ 8) g
          ∙ ap (λ (y : ℕ). y % 2 ^ 8) (shl-shr (n % 2 ^ w * 2 ^ c * 2 ^ 8) j)
          ∙ omega arith
          ∙ sym (past w n k b)
      go (inr b) =
          let j : ℕ = w - (8 * k + 8) in
          let e : 128 - (8 * k + 8) ≡ (128 - w) + j = omega arith in
          within 128 (n % 2 ^ w * 2 ^ (128 - w)) k (omega arith)
          ∙ ap (λ (y : ℕ). n % 2 ^ w * 2 ^ (128 - w) / 2 ^ y % 2 ^ 8) e
          ∙ ap (λ (y : ℕ). y % 2 ^ 8) (sym (shr-shr (n % 2 ^ w * 2 ^ (128 - w)) (128 - w) j) ∙ ap (λ (y : ℕ). y / 2 ^ j) (shl-shr (n % 2 ^ w) (128 - w)))
          ∙ bits_at n w j (omega arith)
          ∙ sym (within w n k b)

-- so that the sixteen octets are the same
pub first_sixteen : (width : Width) (n : ℕ) → sixteen 128 (n % 2 ^ bits width * 2 ^ (128 - bits width)) ≡ sixteen (bits width) n
first_sixteen width n =
    let (d, h) = width_octets width in
    let m : ℕ = n % 2 ^ bits width * 2 ^ (128 - bits width) in
    let l = sixteen-length 128 m (omega arith) in
    ext_get_or 0 (sixteen 128 m) (sixteen (bits width) n) (l ∙ sym (sixteen-length (bits width) n h)) (λ i b. sixteen_at 128 m i refl ∙ first_at (bits width) n i d h (omega (arith, l)) ∙ sym (sixteen_at (bits width) n i d))

-- the loop's invariant: of the sixteen octets of 128 bits those before k are stored
pub record Stored (n : ℕ) (l : List ℕ) (k : ℕ) : Type 0 where
  pub fits : k ≤ 16
  pub size : length l ≡ 16
  pub each : (j : ℕ) → j < k → get_or l j 0 ≡ octet_at 128 n j

-- at the end the octets are the address
pub all_stored : {m : ℕ} {l : List ℕ} {k : ℕ} (width : Width) (n : ℕ) → Stored m l k → 16 ≤ k → m ≡ n % 2 ^ bits width * 2 ^ (128 - bits width)
    → ◌≡◌ {A = Address} (record { width = width; octets = l }) (address_of width n)
all_stored {m} {l} width n s h e =
    ap (λ (x : List ℕ). record { width = width; octets = x })
    (ext_get_or 0 l (sixteen 128 m) (s.size ∙ sym (sixteen-length 128 m (omega arith))) (λ i b. s.each i (omega (arith, s.size)) ∙ sym (sixteen_at 128 m i refl))
    ∙ ap (λ (y : ℕ). sixteen 128 y) e
    ∙ first_sixteen width n)
