-- What a value's lists and families must be, with no place in it: the rules of document 01 on what stands between octets and rows. Definitions.
use Prim.Native.Nat.{ℕ, ◌+◌, ◌≤◌, ◌<◌}
use mathlib.Core.Path.{◌≡◌}
use mathlib.Core.List.{List, [], ◌∷◌}
use lib.ListN.{length}
use Rattle.number.specs.Halves.{bits}
use Rattle.table.specs.Sizes.{max_rows}
use Rattle.table.specs.Spaces.{as_kind, kind_of, width_of}
use Rattle.values.specs.Choices.{Choice, inherit, listed}
use Rattle.values.specs.Tables.{blocks_rows}
use Rattle.values.proofs.laws.Statements.{Fits}

-- numbers of w bits, from the least on: "an element starts more than 1 after the end of the one before"
abbrev pub Rising : ℕ → ℕ → List (ℕ × ℕ) → Type 0
Rising w least [] = Unit {0}
Rising w least (r ∷ rs) = Fits w r × (least ≤ r.0) × Rising w (r.1 + 2) rs

-- "NULL (inherit) or a SEQUENCE of at least one element"
abbrev pub Lists : ℕ → Choice → Type 0
Lists w inherit = Unit {0}
Lists w (listed rs) = (0 < length rs) × Rising w 0 rs

-- spaces of the kind, ascending from the least on, and what each lists
abbrev pub Ordered : ℕ → ℕ → List (ℕ × Choice) → Type 0
Ordered kind least [] = Unit {0}
Ordered kind least (f ∷ fs) = (kind_of f.0 ≡ kind) × (least ≤ f.0) × Lists (bits (width_of f.0)) f.1 × Ordered kind (f.0 + 1) fs

-- the families of a table of the kind, after n rows
pub record Valid (kind n : ℕ) (fs : List (ℕ × Choice)) : Type 0 where
  pub ordered : Ordered kind 0 fs
  pub few : n + length (blocks_rows fs) ≤ max_rows
  pub some : kind ≡ as_kind → 0 < length fs
