-- IPAddressOrRange: the one form of the addresses from low to high at the width w (RFC 3779, sections 2.2.3.7 to 2.2.3.9).
use Rattle.std.specs.Prelude.{ℕ, ltb, eqb}
use Rattle.number.specs.Tests.{pick}
use Rattle.number.specs.Kept.{kept_min, kept_max, zero_filled, one_filled}
use Rattle.number.specs.Shape.{shape_of, is_prefix}
use Rattle.std.specs.Prelude.{Option, Some, None}

-- so many bits and the address that they begin, zeros after them: one of them, or min's and max's
pub data Form : Type 0 where
  prefix : ℕ → ℕ → Form
  range : ℕ → ℕ → ℕ → ℕ → Form

abbrev pub formed : ℕ → ℕ → ℕ → (Option ℕ) → Form
formed w low high (Some n) = prefix n low
formed w low high None = range (kept_min w low) low (kept_max w high) (zero_filled w (kept_max w high) high)

unfoldable pub form_of : ℕ → ℕ → ℕ → Form
form_of w low high = formed w low high (shape_of w low high)

-- low and high of a form, if it is their one form
pub data Span : Type 0 where
  span : ℕ → ℕ → Span
  none : Span

-- "min must be below max"; min without its trailing zeros, max without its trailing ones; "a range that is a prefix must be written as a prefix"
unfoldable pub ranged : ℕ → ℕ → ℕ → ℕ → ℕ → Span
ranged w n low m high =
    pick (ltb low high)
    (pick (eqb n (kept_min w low))
    (pick (eqb m (kept_max w high))
    (pick (is_prefix w low high) none (span low high)) none) none) none

abbrev pub span_of : ℕ → Form → Span
span_of w (prefix n x) = span x (one_filled w n x)
span_of w (range n x m y) = ranged w n x m (one_filled w m y)
