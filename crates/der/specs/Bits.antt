-- The contents of a BIT STRING that begins an address of w bits, w a multiple of 8. An address is a number below 2 ^ w.
use Rattle.std.specs.Prelude.{Option, Some, None, ℕ, ◌+◌, ◌-◌, ◌*◌, ◌/◌, ◌%◌, ◌^◌, List, ◌∷◌, length, get_or, drop, ltb, eqb}
use Rattle.number.specs.Tests.{pick}
use Rattle.number.specs.Halves.{bits}
use Rattle.number.specs.Octets.{value, octets}
use Rattle.number.specs.Address.{address_of}
use Rattle.number.specs.declared.halves.Width.{Width}
use Rattle.der.specs.declared.bits.BitString.{BitString}

-- the first n of the w bits of x; in the octets the bits left over are 0
unfoldable pub bits_of : ℕ → ℕ → ℕ → List ℕ
bits_of w n x = (8 * ((n + 7) / 8) - n) ∷ octets ((n + 7) / 8) (x / 2 ^ (w - 8 * ((n + 7) / 8)))

-- how many octets n bits take
unfoldable pub bits_size : ℕ → ℕ
bits_size n = 1 + (n + 7) / 8

-- n bits, and the address that they begin, zeros after them
pub data Bits : Type 0 where
  begun : ℕ → ℕ → Bits
  bad : Bits

-- u bits of the octets are left over. "At most 32 or 128 bits; unused bits 0 to 7, all zero; with no octets the initial octet is 0."
unfoldable pub cut : ℕ → ℕ → List ℕ → Bits
cut w u s =
    pick (ltb 7 u) bad
    (pick (ltb (8 * length s) u) bad
    (pick (ltb w (8 * length s - u)) bad
    (pick (eqb (value s % 2 ^ u) 0) (begun (8 * length s - u) (value s * 2 ^ (w - 8 * length s))) bad)))

unfoldable pub read_bits : ℕ → List ℕ → Bits
read_bits w c = pick (ltb (length c) 1) bad (cut w (get_or c 0 0) (drop 1 c))

-- the same as the code answers it
abbrev pub addressed : Width → Bits → Option BitString
addressed width (begun n x) = Some (record { count = n; address = address_of width x })
addressed width bad = None

unfoldable pub bit_string_of : Width → List ℕ → Option BitString
bit_string_of width c = addressed width (read_bits (bits width) c)
