-- Octets written into a lent run.
use Rattle.std.specs.Prelude.{ℕ, ◌+◌, ◌-◌, ◌*◌, ◌/◌, List, ◌∷◌, ◌++◌, length, take, drop, ltb}
use Rattle.number.specs.Tests.{pick}
use Rattle.number.specs.declared.address.Address.{Address}
use Rattle.der.specs.Head.{head_octets}

-- the octets at a place of the run; as it is where they do not fit
unfoldable pub written : List ℕ → ℕ → List ℕ → List ℕ
written out at s = pick (ltb (length out) (at + length s)) out (take at out ++ s ++ drop (at + length s) out)

-- the head of contents of n octets there; none where n is above 65,535
unfoldable pub head_written : List ℕ → ℕ → ℕ → ℕ → List ℕ
head_written out at tag n = pick (ltb 65535 n) out (written out at (head_octets tag n))

-- the contents of a BIT STRING of the first n bits of an address (proofs/laws/Writing: they are `bits_of` its number)
unfoldable pub address_bits : ℕ → Address → List ℕ
address_bits n a = (8 * ((n + 7) / 8) - n) ∷ take ((n + 7) / 8) a.octets

-- those there; none where n is above 128
unfoldable pub bits_written : List ℕ → ℕ → ℕ → Address → List ℕ
bits_written out at n a = pick (ltb 128 n) out (written out at (address_bits n a))
