-- The octets of AS numbers and routing domain identifiers: one of them, or a range. Theorems. Assumes nothing.
use mathlib.Core.Path.{◌≡◌}
use mathlib.Core.List.{◌++◌}
use Prim.Native.Nat.{ℕ}
use borrow.Author.Tests.{eq-eqb, ne_eqb}
use Rattle.der.specs.Tags.{INTEGER, SEQUENCE}
use Rattle.der.specs.Head.{element}
use Rattle.der.specs.Integer.{integer_octets}
use Rattle.values.specs.Encode.{id_octets}

module _ (low high : ℕ) where
  -- low is high
  pub id_one : low ≡ high → id_octets (low, high) ≡ element INTEGER (integer_octets low)
  unfolding id_octets
  id_one e = rw (eq-eqb low high e)

  -- or not
  pub id_two : (low ≡ high → ⊥) → id_octets (low, high) ≡ element SEQUENCE (element INTEGER (integer_octets low) ++ element INTEGER (integer_octets high))
  unfolding id_octets
  id_two e = rw (ne_eqb low high e)
