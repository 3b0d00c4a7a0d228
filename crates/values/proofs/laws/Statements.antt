-- What the laws of the readers speak of: numbers that fit a list, and lists with no place in them. Definitions.
use Prim.Native.Nat.{ℕ, ◌^◌, ◌≤◌, ◌<◌}
use Rattle.number.specs.Halves.{bits}
use Rattle.table.specs.Spaces.{width_of}
use Rattle.values.specs.declared.elements.Space.{Space}
use Rattle.values.specs.declared.elements.Space.TheVariants as space

-- how many bits the numbers of a list have
abbrev pub bits_in : Space → ℕ
bits_in (space.Addresses a) = bits (width_of a)
bits_in space.AsNumbers = 32
bits_in space.RoutingDomains = 32

-- low and high of w bits
pub record Fits (w : ℕ) (r : ℕ × ℕ) : Type 0 where
  pub order : r.0 ≤ r.1
  pub fits : r.1 < 2 ^ w
