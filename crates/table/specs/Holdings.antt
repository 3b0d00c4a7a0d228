-- What rows hold. "A certificate holds in a space what it lists there". "Families match only by equal space".
use Rattle.std.specs.Prelude.{◌≡◌, List, ◌∷◌, ℕ, ◌≤◌}
use Rattle.table.specs.Rows.{Row}

-- the number n of space s lies in the row r
pub record Has (r : Row) (s n : ℕ) : Type 0 where
  pub listed : r.inherit ≡ 0
  pub same : r.space ≡ s
  pub above : r.low ≤ n
  pub below : n ≤ r.high

-- one of the rows has it
pub data Holds (s n : ℕ) : List Row → Type 0 where
  here : {r : Row} {rs : List Row} → Has r s n → Holds s n (r ∷ rs)
  there : {r : Row} {rs : List Row} → Holds s n rs → Holds s n (r ∷ rs)

-- one of the rows inherits the space s
pub data Inherits (s : ℕ) : List Row → Type 0 where
  here : {r : Row} {rs : List Row} → r.inherit ≡ 1 → r.space ≡ s → Inherits s (r ∷ rs)
  there : {r : Row} {rs : List Row} → Inherits s rs → Inherits s (r ∷ rs)
