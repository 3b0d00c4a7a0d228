-- Octets and the number that they spell, the highest first.
use Rattle.std.specs.Prelude.{ℕ, zero, suc, ◌+◌, ◌-◌, ◌*◌, ◌/◌, ◌%◌, ◌^◌, ◌<◌, List, [], ◌∷◌, length, get_or, ltb}
use Rattle.number.specs.Tests.{pick}

-- a list of octets
unfoldable pub Octets : List ℕ → Type 0
Octets s = (k : ℕ) → get_or s k 0 < 256

-- the number that octets spell
abbrev pub value : List ℕ → ℕ
value [] = 0
value (x ∷ s) = x * 2 ^ (8 * length s) + value s

-- the k octets that spell a number below 2 ^ (8 * k)
abbrev pub octets : ℕ → ℕ → List ℕ
octets zero n = []
octets (suc k) n = n / 2 ^ (8 * k) ∷ octets k (n % 2 ^ (8 * k))

-- octet k of the last w bits of n; past the width 0
unfoldable pub octet_at : ℕ → ℕ → ℕ → ℕ
octet_at w n k = pick (ltb w (8 * k + 8)) 0 (n / 2 ^ (w - (8 * k + 8)) % 2 ^ 8)
