-- The contents of NULL, of which there are none, and the size of an OCTET STRING.
use Rattle.std.specs.Prelude.{ℕ, List, Bool, false, length, ltb, leb, eqb}
use Rattle.number.specs.Tests.{pick}

unfoldable pub is_null : List ℕ → Bool
is_null c = eqb (length c) 0

unfoldable pub is_sized : List ℕ → ℕ → ℕ → Bool
is_sized c least most = pick (ltb (length c) least) false (leb (length c) most)
