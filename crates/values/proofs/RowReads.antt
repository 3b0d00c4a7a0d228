-- The rows that the readers of elements make: addresses, AS numbers and routing domain identifiers alike. Theorems. Assumes nothing.
--     row_made     a row by its two ends
--     Rowed, row_took       an element that was taken, and its row
use mathlib.Core.Path.{◌≡◌, refl}
use mathlib.Core.List.{List}
use Prim.Native.Nat.{ℕ}
use Rattle.number.specs.Halves.{whole, halves}
use Rattle.number.specs.declared.halves.Halves.{Halves}
use Rattle.number.proofs.TwoHalves.{whole_halves}
use Rattle.table.specs.Rows.{in_halves}
use Rattle.table.specs.declared.rows.Row.{Row}
use Rattle.der.specs.Parts.{Part}
use Rattle.values.specs.Faults.{Fault}
use Rattle.values.specs.Choices.{listed_row}
use Rattle.values.proofs.Joins.{Took}

-- the row of the numbers from x to y in the space a
pub row_made : {low high : Halves} (a x y : ℕ) → low ≡ halves x → high ≡ halves y → ◌≡◌ {A = Row} (record { space = a; inherit = 0; low = low; high = high }) (in_halves (listed_row a (x, y)))
row_made a x y p q = rw (p, q) refl

-- an element that was taken, and its row in the space a
pub record Rowed (o : Part (ℕ × ℕ) Fault) (a : ℕ) (s : List ℕ) (row : Row) (k : ℕ) : Type 0 where
  pub ends : Took o s (whole row.low, whole row.high) k
  pub own : row.space ≡ a
  pub lists : row.inherit ≡ 0

-- by its two ends
pub row_took : {row : Row} (o : Part (ℕ × ℕ) Fault) (a : ℕ) (s : List ℕ) (x y k : ℕ) → row ≡ in_halves (listed_row a (x, y)) → Took o s (x, y) k → Rowed o a s row k
row_took o a s x y k p t = rw p (record { ends = rw (whole_halves x, whole_halves y) t; own = refl; lists = refl })
