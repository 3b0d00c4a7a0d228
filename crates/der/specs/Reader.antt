-- "A reader holds the value and its place in it and goes on element by element, left to right, outer before inner."
-- What a reader finds at its place, and how many octets are left there. Past the end of the value there are none.
use Rattle.std.specs.Prelude.{ℕ, ◌-◌, List, length, drop}
use Rattle.der.specs.Opening.{opening_of}
use Rattle.der.specs.Opening.{Opening}

-- the element of a tag at a place of a value; past the end "tag or length missing"
unfoldable pub element_at : List ℕ → ℕ → ℕ → Opening
element_at value at tag = opening_of tag (drop at value)

-- how many octets of a value there are from a place on
unfoldable pub left_at : List ℕ → ℕ → ℕ
left_at value at = length value - at
