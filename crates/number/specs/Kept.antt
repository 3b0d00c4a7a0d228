-- How many bits min and max keep, at any width w: "In a range, min has its trailing zero bits removed and max its trailing one bits."
use Rattle.std.specs.Prelude.{ℕ, zero, suc, ◌+◌, ◌-◌, ◌*◌, ◌/◌, ◌%◌, ◌^◌, eqb}
use Rattle.number.specs.Tests.{pick}

-- "the length of the run of equal bits at the end": of the last w bits of n, as many as are b in a row
unfoldable pub run : ℕ → ℕ → ℕ → ℕ
run b zero n = 0
run b (suc w) n = pick (eqb (n % 2) b) (suc (run b w (n / 2))) 0

-- min loses its trailing zeros
unfoldable pub kept_min : ℕ → ℕ → ℕ
kept_min w low = w - run 0 w low

-- how many bits max loses: its trailing ones; "if removal would leave no one bit, the first one of the removed run is kept". THAT RULE STANDS HERE AND NOWHERE ELSE
unfoldable pub lost_max : ℕ → ℕ → ℕ
lost_max w high = pick (eqb (high / 2 ^ run 1 w high) 0) (run 1 w high - 1) (run 1 w high)

unfoldable pub kept_max : ℕ → ℕ → ℕ
kept_max w high = w - lost_max w high

-- the first n of w bits of x, and zeros after them
unfoldable pub zero_filled : ℕ → ℕ → ℕ → ℕ
zero_filled w n x = x / 2 ^ (w - n) * 2 ^ (w - n)

-- the first n of w bits of x, and ones after them
unfoldable pub one_filled : ℕ → ℕ → ℕ → ℕ
one_filled w n x = x / 2 ^ (w - n) * 2 ^ (w - n) + (2 ^ (w - n) - 1)
