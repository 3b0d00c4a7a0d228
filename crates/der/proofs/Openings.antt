-- What the code of `length_of` finds, in the terms of the definitions. Theorems. Assumes nothing.
--     fitted_as    a call's answer for a number that a call gave
--     pairs        two octets that calls gave, as one number
use mathlib.Core.Path.{◌≡◌}
use mathlib.Core.Bool.{true, false}
use Prim.Native.Nat.{ℕ, ◌+◌, ◌*◌, ◌≤◌, ◌<◌}
use native.Mathlib.Omega.{arith}
use borrow.Author.Tests.{lt-ltb, le-ltb}
use lib.Dec.{ltb}
use Rattle.der.specs.Opening.{fitted}
use Rattle.der.specs.Opening.{Opening}

-- a call's answer for numbers that are equal
pub fitted_as : {r : Opening} (l k n m : ℕ) → r ≡ fitted l k n → n ≡ m → r ≡ fitted l k m
fitted_as l k n m e q = rw (← q) e

-- two octets that calls gave, as one number
pub two_as : {x y : ℕ} (a b : ℕ) → x ≡ a → y ≡ b → x * 256 + y ≡ a * 256 + b
two_as a b p q = rw (p, q)

-- it is less than a bound
pub two_lt : {x y : ℕ} (a b m : ℕ) → x ≡ a → y ≡ b → x * 256 + y < m → ltb (a * 256 + b) m ≡ true
two_lt {x} {y} a b m p q h = lt-ltb (a * 256 + b) m (omega arith)

-- or it is not
pub two_ge : {x y : ℕ} (a b m : ℕ) → x ≡ a → y ≡ b → m ≤ x * 256 + y → ltb (a * 256 + b) m ≡ false
two_ge {x} {y} a b m p q h = le-ltb (a * 256 + b) m (omega arith)

pub ruleset pairs = (two_as, two_lt, two_ge)
