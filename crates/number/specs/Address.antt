-- "Between octets and table, an address is one value: its width and its sixteen octets, unused ones zero."
use Rattle.std.specs.Prelude.{ℕ, ◌-◌, ◌/◌, ◌%◌, ◌^◌, List, ◌++◌, take, replicate}
use Rattle.number.specs.Halves.{bits}
use Rattle.number.specs.Octets.{value, octets}
use Rattle.number.specs.declared.halves.Width.{Width}
use Rattle.number.specs.declared.address.Address.{Address}

-- the sixteen octets of the last w bits of n
unfoldable pub sixteen : ℕ → ℕ → List ℕ
sixteen w n = octets (w / 8) (n % 2 ^ w) ++ replicate (16 - w / 8) 0

-- the address of a number
abbrev pub address_of : Width → ℕ → Address
address_of width n = record { width = width; octets = sixteen (bits width) n }

-- the number of an address
unfoldable pub number_of : Address → ℕ
number_of a = value (take (bits a.width / 8) a.octets)
