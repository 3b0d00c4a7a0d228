-- The address of a number: its octets, and the number again. Theorems. Assumes nothing.
--     address_back         from a number to its address and back: the last bits of the number, as many as the width has
--     address_is           where the number fits the width, that number
--     address_sixteen      an address has sixteen octets
--     address_unused       those past the width are 0
use mathlib.Core.Path.{◌≡◌, ap, subst, ◌∙◌}
use Prim.Native.Nat.{ℕ, ◌-◌, ◌*◌, ◌/◌, ◌%◌, ◌^◌, ◌≤◌, ◌<◌}
use native.Mathlib.Nat.{mod-lt, mod-eq_of_lt}
use native.Mathlib.Omega.{arith}
use lib.Pow.{pow_pos}
use lib.ListN.{length, take, get_or, replicate}
use lib.Seq.{take_at}
use Rattle.number.specs.Halves.{bits}
use Rattle.number.specs.Octets.{value, octets}
use Rattle.number.specs.Address.{sixteen, address_of, number_of}
use Rattle.number.specs.declared.address.Address.{Address}
use Rattle.number.specs.declared.halves.Width.{Width}
use Rattle.number.proofs.Sixteen.{width_octets, sixteen-length, unused}
use Rattle.number.proofs.laws.Octets.{octets-length, octets_value}

-- at any width that is a whole number of octets
pub sixteen_back : (w n : ℕ) → w % 8 ≡ 0 → value (take (w / 8) (sixteen w n)) ≡ n % 2 ^ w
unfolding sixteen
sixteen_back w n d =
    let s = octets (w / 8) (n % 2 ^ w) in
    let e : w ≡ 8 * (w / 8) = omega arith in
    ap value (take_at s (replicate (16 - w / 8) 0) (w / 8) (octets-length (w / 8) (n % 2 ^ w))) ∙ octets_value (w / 8) (n % 2 ^ w) (subst (λ (x : ℕ). n % 2 ^ w < 2 ^ x) e (mod-lt n (pow_pos w)))

-- and so at both
pub address_back : (width : Width) (n : ℕ) → number_of (address_of width n) ≡ n % 2 ^ bits width
unfolding number_of
address_back width n = sixteen_back (bits width) n (width_octets width).0

-- a number that fits is its address's
pub address_is : (width : Width) (n : ℕ) (a : Address) → n < 2 ^ bits width → a ≡ address_of width n → number_of a ≡ n
address_is width n a l e = ap number_of e ∙ address_back width n ∙ mod-eq_of_lt l

-- sixteen octets, at any width that fits
pub address_sixteen : (w n : ℕ) → w ≤ 128 → length (sixteen w n) ≡ 16
address_sixteen = sixteen-length

-- 0 past the width
pub address_unused : (w n k : ℕ) → w / 8 ≤ k → get_or (sixteen w n) k 0 ≡ 0
address_unused = unused
