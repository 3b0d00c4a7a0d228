-- The contents of an INTEGER. "Numbers are 0 to 4,294,967,295, minimal."
use Rattle.std.specs.Prelude.{Result, Ok, Err, ℕ, ◌^◌, List, Bool, false, length, get_or, ltb, leb, eqb}
use Rattle.number.specs.Tests.{pick}
use Rattle.number.specs.Octets.{value, octets}
use Rattle.der.specs.declared.integers.BadInteger.{BadInteger}
use Rattle.der.specs.declared.integers.BadInteger.TheVariants.{Empty, Negative, Padded, TooLarge}

-- the first octet is 0, and the next one does not begin with a set bit
unfoldable pub padded : List ℕ → Bool
padded c = pick (ltb 1 (length c)) (pick (eqb (get_or c 0 0) 0) (ltb (get_or c 1 0) 128) false) false

-- the number, or the cause of its refusal: a number that is minimal and not negative can only be too large
unfoldable pub integer_of : List ℕ → Result ℕ BadInteger
integer_of c =
    pick (eqb (length c) 0) (Err Empty)
    (pick (leb 128 (get_or c 0 0)) (Err Negative)
    (pick (padded c) (Err Padded)
    (pick (ltb 5 (length c)) (Err TooLarge)
    (pick (ltb 4294967295 (value c)) (Err TooLarge)
    (Ok (value c))))))

-- how many octets an INTEGER of at most 32 bits takes: the first bit is not set
unfoldable pub integer_size : ℕ → ℕ
integer_size x = pick (ltb x (2 ^ 7)) 1 (pick (ltb x (2 ^ 15)) 2 (pick (ltb x (2 ^ 23)) 3 (pick (ltb x (2 ^ 31)) 4 5)))

unfoldable pub integer_octets : ℕ → List ℕ
integer_octets x = octets (integer_size x) x
