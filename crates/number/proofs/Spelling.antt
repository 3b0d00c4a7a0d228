-- The number that octets spell, as the code computes it. Theorems. Assumes nothing.
--     Spelled      the loop's invariant.       mul_fits, sum_fits, turn, at_eight       its places, here and in der
--     array_octets     an array's elements are octets
--     narrow, broad        the halves of an address of 32 and of 128 bits, by what its octets spell
use mathlib.Core.Path.{◌≡◌, sym, ap, ap₂, ◌∙◌}
use mathlib.Core.List.{List, [], ◌∷◌}
use Prim.Native.Nat.{ℕ, zero, suc, ◌+◌, ◌*◌, ◌/◌, ◌%◌, ◌^◌, ◌≤◌, ◌<◌}
use native.Mathlib.Nat.{lt_of_lt_of_le}
use native.Mathlib.Numerals.{add-one}
use native.Mathlib.Omega.{arith}
use lib.Arith.{digits_lt}
use lib.Pow.{pow-add, pow_mono, high, low}
use lib.ListN.{length, take, drop, get_or, length-drop}
use lib.Seq.{take-suc, take_all, take-add, take-take, length-take-le}
use mir.Val.{Val}
use denote.Shadow.{shadow}
use denote.Array.{each}
use denote.Builtin.{u8}
use Rattle.number.specs.Halves.{halves}
use Rattle.number.specs.Octets.{Octets, value}
use Rattle.number.specs.Address.{number_of}
use Rattle.number.specs.declared.halves.Halves.{Halves}
use Rattle.number.specs.declared.halves.Width.TheVariants.{Bits32, Bits128}
use Rattle.number.specs.declared.address.Address.{Address}
use Rattle.number.proofs.laws.Octets.{value-append, octets_part, first_of}

-- n is what the first k octets of s spell, of which there are at most eight
pub record Spelled (s : List ℕ) (n k : ℕ) : Type 0 where
  pub eight : k ≤ 8
  pub inside : k ≤ length s
  pub spelt : n ≡ value (take k s)
  pub small : n < 2 ^ (8 * k)

-- one octet more
value_more : (s : List ℕ) (k : ℕ) → k < length s → value (take (k + 1) s) ≡ value (take k s) * 256 + get_or s k 0
value_more s k h = rw (add-one, take-suc s k 0, value-append) (omega arith)

module _ {s : List ℕ} {n k : ℕ} (v : Spelled s n k) (h : k < 8) where
  -- it stays below the power of 2
  small_more : (b : ℕ) → b < 256 → n * 256 + b < 2 ^ (8 * (k + 1))
  small_more b r =
      let e : 8 * (k + 1) ≡ 8 * k + 8 = omega arith in
      rw (e, pow-add 2 (8 * k) 8) (digits_lt v.small r)

  -- the next number fits 64 bits
  pub sum_fits : (b : ℕ) → b < 256 → n * 256 + b < 2 ^ 64
  sum_fits b r = let e : 8 * (k + 1) ≤ 64 = omega arith in lt_of_lt_of_le (small_more b r) (pow_mono e)

  -- and so does its first part
  pub mul_fits : n * 256 < 2 ^ 64
  mul_fits = omega (arith, sum_fits 0 (omega arith))

  -- one turn
  pub turn : (b : ℕ) → k < length s → b ≡ get_or s k 0 → b < 256 → Spelled s (n * 256 + b) (k + 1)
  turn b l e r =
      record { eight = omega arith; inside = omega arith; spelt = rw (value_more s k l) (omega (arith, v.spelt)); small = small_more b r }

-- after eight octets
pub at_eight : {s : List ℕ} {n k : ℕ} → Spelled s n k → 8 ≤ k → n ≡ value (take 8 s)
at_eight {s} {n} {k} v h =
    let e : k ≡ 8 = omega arith in
    rw e at v.spelt

-- a number below 2 ^ 64 is its own lower half
small_halves : {l n : ℕ} → l < 2 ^ 64 → l ≡ n → ◌≡◌ {A = Halves} (record { upper = 0; lower = l }) (halves n)
small_halves {l} {n} b e =
    let p : 0 ≡ n / 2 ^ 64 = omega arith in
    let q : l ≡ n % 2 ^ 64 = omega arith in
    ap₂ (λ (x y : ℕ). record { upper = x; lower = y }) p q

-- an array's elements are octets
pub array_octets : (s : List ℕ) (vs : List Val) → shadow (each ℕ u8.own_val s vs) → Octets s
unfolding Octets
array_octets [] vs o k = omega arith
array_octets (x ∷ s) [] o k = absurd o
array_octets (x ∷ s) (v ∷ vs) o zero = o.0.1
array_octets (x ∷ s) (v ∷ vs) o (suc k) = array_octets s vs o.1 k

module _ (a : Address) where
  -- four octets, the first half of eight
  pub narrow : {l : ℕ} → a.width ≡ Bits32 → length a.octets ≡ 16 → Octets a.octets → l < 2 ^ 64 → l ≡ value (take 8 a.octets) → ◌≡◌ {A = Halves} (record { upper = 0; lower = l / 2 ^ 32 }) (halves (number_of a))
  unfolding number_of
  narrow {l} e s o b p =
      let n : length (take 8 a.octets) ≡ 8 = length-take-le 8 a.octets (omega arith) in
      let v = first_of 4 (take 8 a.octets) (octets_part 0 8 a.octets o) (omega arith) n in
      rw e (small_halves (omega arith) (ap (λ (x : ℕ). x / 2 ^ 32) p ∙ v ∙ ap value (take-take 4 8 a.octets (omega arith))))

  -- sixteen octets, eight in each half
  pub broad : {u l : ℕ} → a.width ≡ Bits128 → length a.octets ≡ 16 → l < 2 ^ 64 → u ≡ value (take 8 a.octets) → l ≡ value (take 8 (take 8 (drop 8 a.octets)))
      → ◌≡◌ {A = Halves} (record { upper = u; lower = l }) (halves (number_of a))
  unfolding number_of
  broad {u} {l} e s b p q =
      let t = take 8 (drop 8 a.octets) in
      let z : length t ≡ 8 = length-take-le 8 (drop 8 a.octets) (omega (arith, length-drop 8 a.octets)) in
      let k : value t ≡ l = ap value (sym (take_all 8 t (omega arith))) ∙ sym q in
      rw (e, take-add 8 8 a.octets, value-append (take 8 a.octets) t, z, k, ← p)
      (ap₂ (λ (x y : ℕ). record { upper = x; lower = y }) (sym (high u 64 b)) (sym (low u 64 b)))
