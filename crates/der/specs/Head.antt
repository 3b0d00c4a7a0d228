-- The head of a DER element: tag, definite minimal length, contents, rest. Read and written.
-- "Lengths are definite and minimal: 0 to 127 in one octet, then 81, then 82."
use Rattle.std.specs.Prelude.{ℕ, ◌+◌, ◌*◌, ◌/◌, ◌%◌, List, [], ◌∷◌, ◌++◌, length, get_or, take, drop, ltb, eqb}
use Rattle.number.specs.Tests.{pick}

-- contents and rest
pub data Head : Type 0 where
  found : List ℕ → List ℕ → Head
  fault : Head

-- n octets of contents, and the rest: "contents past the enclosing element" are a fault
unfoldable pub body : ℕ → List ℕ → Head
body n s = pick (ltb (length s) n) fault (found (take n s) (drop n s))

-- what follows the tag; the first octet of s is the tag
unfoldable pub head : List ℕ → Head
head s =
    pick (ltb (length s) 2) fault
    (pick (ltb (get_or s 1 0) 0x80) (body (get_or s 1 0) (drop 2 s))
    (pick (eqb (get_or s 1 0) 0x81)
    (pick (ltb (length s) 3) fault
    (pick (ltb (get_or s 2 0) 0x80) fault
    (body (get_or s 2 0) (drop 3 s))))
    (pick (eqb (get_or s 1 0) 0x82)
    (pick (ltb (length s) 4) fault
    (pick (ltb (get_or s 2 0 * 256 + get_or s 3 0) 256) fault
    (body (get_or s 2 0 * 256 + get_or s 3 0) (drop 4 s))))
    fault)))

-- a length below 65,536
unfoldable pub length_octets : ℕ → List ℕ
length_octets n =
    pick (ltb n 128) (n ∷ [])
    (pick (ltb n 256) (0x81 ∷ n ∷ [])
    (0x82 ∷ n / 256 ∷ n % 256 ∷ []))

unfoldable pub element : ℕ → List ℕ → List ℕ
element tag c = tag ∷ (length_octets (length c) ++ c)

-- the head of contents of n octets, and how many octets it has
unfoldable pub head_octets : ℕ → ℕ → List ℕ
head_octets tag n = tag ∷ length_octets n

unfoldable pub head_size : ℕ → ℕ
head_size n = pick (ltb n 128) 2 (pick (ltb n 256) 3 4)
