-- What stands at a place of a value, in the terms of the code. Theorems. Assumes nothing.
--     element_past, element_rest    what `element_at` finds past the end of the value, and in the octets from the place on
--     element_start                 at the start it is the value's own element
use mathlib.Core.Path.{◌≡◌, refl}
use mathlib.Core.List.{List}
use Prim.Native.Nat.{ℕ, ◌-◌, ◌<◌}
use native.Mathlib.Omega.{arith}
use lib.ListN.{length, take, drop, drop_of_length-le}
use Rattle.number.proofs.Picks.{rest_of}
use Rattle.der.specs.Opening.{faulty, opening_of}
use Rattle.der.specs.Reader.{element_at}
use Rattle.der.specs.Opening.{Opening}

-- past the end of the value no tag is there
pub element_past : (value : List ℕ) (at tag : ℕ) → length value < at → faulty ≡ element_at value at tag
unfolding element_at opening_of
element_past value at tag h = rw (drop_of_length-le value {i = at} (omega arith)) refl

-- the octets from the place on, as the code cuts them
pub element_rest : {o : Opening} (value : List ℕ) (at tag : ℕ) → o ≡ opening_of tag (take (length value - at) (drop at value)) → o ≡ element_at value at tag
unfolding element_at
element_rest value at tag e = rw (rest_of at value) at e

-- a new reader finds the value's own element
pub element_start : (value : List ℕ) (tag : ℕ) → element_at value 0 tag ≡ opening_of tag value
unfolding element_at
element_start value tag = refl
