-- The elements of one list. "In each list an element starts more than 1 after the end of the one before."
use Rattle.std.specs.Prelude.{ℕ, ◌+◌, List, ltb, leb, eqb}
use Rattle.number.specs.Tests.{pick}
use Rattle.number.specs.Halves.{bits}
use Rattle.number.specs.declared.refusal.Refusal.TheVariants as refusal
use Rattle.table.specs.Sizes.{max_rows}
use Rattle.table.specs.Spaces.{width_of}
use Rattle.der.specs.Parts.{Contents, is, isnt, Part, admitted, list_of}
use Rattle.der.specs.Walk.{Step}
use Rattle.values.specs.Faults.{Fault, at, moved_part}
use Rattle.values.specs.Addresses.{address_at}
use Rattle.values.specs.Ids.{id_at}
use Rattle.values.specs.declared.elements.Space.{Space}
use Rattle.values.specs.declared.elements.Space.TheVariants as space

-- low and high of an element
abbrev pub element_at : Space → List ℕ → Part (ℕ × ℕ) Fault
element_at (space.Addresses a) = address_at (bits (width_of a))
element_at space.AsNumbers = id_at
element_at space.RoutingDomains = id_at

-- the place in the list, the least number that may come, and the rows so far
abbrev pub Place : Type 0
Place = ℕ × ℕ × ℕ

-- the least number that may come at a place, after an element that ends with last: any at the start
unfoldable pub least_at : ℕ → ℕ → ℕ
least_at place last = pick (eqb place 0) 0 (last + 2)

-- an element of k octets: refusal 10 before 11
unfoldable pub admit_row : Place → ℕ × ℕ → ℕ → Contents Place Fault
admit_row σ r k =
    pick (ltb r.0 σ.1) (isnt (at σ.0 refusal.ElementOrder))
    (pick (leb max_rows σ.2) (isnt (at σ.0 refusal.RowCount))
    (is (σ.0 + k, r.1 + 2, σ.2 + 1)))

unfoldable pub element_step : Space → Place → List ℕ → Step (ℕ × ℕ) Place Fault
element_step a = admitted (λ σ s. moved_part σ.0 (element_at a s)) admit_row

-- the elements of a list, after n rows
unfoldable pub elements_of : Space → ℕ → List ℕ → Contents (List (ℕ × ℕ)) Fault
elements_of a n = list_of (element_step a) (0, 0, n)
