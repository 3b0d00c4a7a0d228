-- The octets of a row, by the kind of its table. Theorems. Assumes nothing.
--     ip_row     in a table of IP addresses its octets are an address element's
--     as_row     in one of AS identifiers they are an identifier's
use mathlib.Core.Path.{◌≡◌, refl}
use mathlib.Core.Bool.{Bool, true, false}
use Prim.Native.Nat.{ℕ}
use lib.Dec.{eqb}
use borrow.Author.Tests.{eq-eqb, ne_eqb}
use Rattle.number.specs.Tests.{pick}
use Rattle.number.specs.Halves.{whole, bits}
use Rattle.number.specs.declared.halves.Halves.{Halves}
use Rattle.number.specs.declared.halves.Width.{Width}
use Rattle.table.specs.Spaces.{ip_kind, width_of}
use Rattle.table.specs.Rows.{seen}
use Rattle.table.specs.declared.rows.Row.{Row}
use Rattle.values.specs.Limits.{as_numbers}
use Rattle.values.specs.Encode.{address_octets, id_octets, element_octets, row_octets}
use Rattle.values.specs.declared.elements.Space.TheVariants as space

-- the octets of a row of addresses
pub ip_row : {width : Width} {low high : Halves} (kind : ℕ) (row : Row) → kind ≡ ip_kind → (width ≡ width_of row.space) × (low ≡ row.low) × (high ≡ row.high) → row_octets kind (seen row) ≡ address_octets (bits width) (whole low, whole high)
unfolding row_octets
ip_row kind row e (w, l, h) = rw (eq-eqb kind ip_kind e, w, l, h)

-- the octets of a row of identifiers
pub as_row : {low high : ℕ} (kind : ℕ) (row : Row) → (kind ≡ ip_kind → ⊥) → (low ≡ whole row.low) × (high ≡ whole row.high) → row_octets kind (seen row) ≡ id_octets (low, high)
unfolding row_octets
as_row {low} {high} kind row e (l, h) = rw (ne_eqb kind ip_kind e, ← l, ← h) (go (eqb row.space as_numbers))
  where
    go : (t : Bool) → element_octets (pick t space.AsNumbers space.RoutingDomains) (low, high) ≡ id_octets (low, high)
    go true = refl
    go false = refl
