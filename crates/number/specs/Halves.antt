-- A number of up to 128 bits, its two halves, and the widths of document 01.
use Rattle.std.specs.declared.cmp.Ordering.{Ordering}
use Rattle.std.specs.Ordering.{nat_cmp, on, then_cmp}
use Rattle.std.specs.Prelude.{ℕ, ◌+◌, ◌-◌, ◌*◌, ◌/◌, ◌%◌, ◌^◌, eqb}
use Rattle.number.specs.Tests.{pick}
use Rattle.number.specs.declared.halves.Halves.{Halves}
use Rattle.number.specs.declared.halves.Width.{Width}
use Rattle.number.specs.declared.halves.Width.TheVariants.{Bits32, Bits128}

-- "At most 32 or 128 bits"
abbrev pub bits : Width → ℕ
bits Bits32 = 32
bits Bits128 = 128

-- the number of two halves: "low (upper half, lower half)"
abbrev pub whole : Halves → ℕ
whole h = h.upper * 2 ^ 64 + h.lower

-- a number's two halves
abbrev pub halves : ℕ → Halves
halves n = record { upper = n / 2 ^ 64; lower = n % 2 ^ 64 }

-- the order of numbers in halves: the upper halves come first
abbrev pub order : Halves → Halves → Ordering
order = then_cmp (on (λ (h : Halves). h.upper) nat_cmp) (on (λ (h : Halves). h.lower) nat_cmp)

-- the number after n; the last one of 128 bits has none, and stays
unfoldable pub next : ℕ → ℕ
next n = pick (eqb n (2 ^ 128 - 1)) n (n + 1)
