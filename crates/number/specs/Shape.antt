-- "A range that is a prefix must be written as a prefix."
use Rattle.std.specs.Prelude.{◌≡◌, Bool, Option, Some, None, ℕ, ◌+◌, ◌-◌, ◌%◌, ◌^◌, ◌≤◌, ◌<◌, min, eqb}
use Rattle.number.specs.Tests.{pick}
use Rattle.number.specs.Kept.{run}

-- the numbers from low to high are those of w bits whose first n bits are low's
pub record IsPrefix (w n low high : ℕ) : Type 0 where
  pub fits : n ≤ w
  pub below : low < 2 ^ w
  pub zeros : low % 2 ^ (w - n) ≡ 0
  pub last : high ≡ low + (2 ^ (w - n) - 1)

-- how many bits at the end run through all their values from low to high, if those are a prefix
unfoldable pub free : ℕ → ℕ → ℕ → ℕ
free w low high = min (run 0 w low) (run 1 w high)

unfoldable pub is_prefix : ℕ → ℕ → ℕ → Bool
is_prefix w low high = eqb high (low + (2 ^ free w low high - 1))

-- a prefix's number of bits, or none where the numbers are a range
unfoldable pub shape_of : ℕ → ℕ → ℕ → Option ℕ
shape_of w low high = pick (is_prefix w low high) (Some (w - free w low high)) None
