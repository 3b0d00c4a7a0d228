-- "An element is a BIT STRING (prefix) or a SEQUENCE of two (range)": octets to low and high, with the number and the place of each refusal.
use Rattle.std.specs.Prelude.{ℕ, List, get_or, eqb}
use Rattle.number.specs.Tests.{pick}
use Rattle.number.specs.declared.refusal.Refusal.TheVariants as refusal
use Rattle.der.specs.Tags.{BIT_STRING, SEQUENCE}
use Rattle.der.specs.Bits.{Bits, begun, bad, read_bits}
use Rattle.der.specs.Parts.{Contents, is, isnt, Part, tagged, two, only, sifted}
use Rattle.values.specs.Faults.{Fault, at, moved, moved_part}
use Rattle.values.specs.Forms.{Form, prefix, range, Span, span, none, span_of}

abbrev pub bits_contents : Bits → Contents (ℕ × ℕ) Fault
bits_contents (begun n x) = is (n, x)
bits_contents bad = isnt (at 0 refusal.Contents)

-- a BIT STRING: so many bits, and the address that they begin
unfoldable pub bits_at : ℕ → List ℕ → Part (ℕ × ℕ) Fault
bits_at w = tagged (at 0) BIT_STRING (λ k c. bits_contents (read_bits w c))

-- the contents of a range: min, then max, then nothing
unfoldable pub bounds_of : ℕ → List ℕ → Contents ((ℕ × ℕ) × (ℕ × ℕ)) Fault
bounds_of w = only (λ j. at j refusal.OctetsLeft) (two (bits_at w) (λ j min s. moved_part j (bits_at w s)))

unfoldable pub range_at : ℕ → List ℕ → Part ((ℕ × ℕ) × (ℕ × ℕ)) Fault
range_at w = tagged (at 0) SEQUENCE (λ k c. moved k (bounds_of w c))

abbrev pub as_prefix : ℕ × ℕ → Form
as_prefix b = prefix b.0 b.1

abbrev pub as_range : (ℕ × ℕ) × (ℕ × ℕ) → Form
as_range r = range r.0.0 r.0.1 r.1.0 r.1.1

abbrev pub spanned : Span → Contents (ℕ × ℕ) Fault
spanned none = isnt (at 0 refusal.RangeForm)
spanned (span low high) = is (low, high)

-- a prefix's low and high, and a range's
unfoldable pub prefix_at : ℕ → List ℕ → Part (ℕ × ℕ) Fault
prefix_at w s = sifted (λ b. spanned (span_of w (as_prefix b))) (bits_at w s)

unfoldable pub range_row_at : ℕ → List ℕ → Part (ℕ × ℕ) Fault
range_row_at w s = sifted (λ r. spanned (span_of w (as_range r))) (range_at w s)

-- low and high of an element
unfoldable pub address_at : ℕ → List ℕ → Part (ℕ × ℕ) Fault
address_at w s = pick (eqb (get_or s 0 0) BIT_STRING) (prefix_at w s) (range_row_at w s)
