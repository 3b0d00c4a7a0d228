-- The rows of a value, in the order of its elements.
use Rattle.std.specs.Prelude.{ℕ, List, [], ◌∷◌, ◌++◌}
use Rattle.table.specs.Rows.{Row}
use Rattle.der.specs.Parts.{Contents, is, isnt}
use Rattle.values.specs.Limits.{as_numbers, routing_domains}
use Rattle.values.specs.Faults.{Fault}
use Rattle.values.specs.Choices.{Choice, choice_rows}
use Rattle.values.specs.Blocks.{read_blocks}
use Rattle.values.specs.Identifiers.{Identifiers, numbers, domains, both, read_identifiers}

abbrev pub blocks_rows : List (ℕ × Choice) → List Row
blocks_rows [] = []
blocks_rows (f ∷ fs) = choice_rows f.0 f.1 ++ blocks_rows fs

abbrev pub identifiers_rows : Identifiers → List Row
identifiers_rows (numbers c) = choice_rows as_numbers c
identifiers_rows (domains d) = choice_rows routing_domains d
identifiers_rows (both c d) = choice_rows as_numbers c ++ choice_rows routing_domains d

abbrev pub tabled : {X : Type 0} → (X → List Row) → Contents X Fault → Contents (List Row) Fault
tabled rows (is x) = is (rows x)
tabled rows (isnt e) = isnt e

-- the rows of an IPAddrBlocks value, and those of an ASIdentifiers value that comes after n rows
unfoldable pub ip_rows : List ℕ → Contents (List Row) Fault
ip_rows v = tabled blocks_rows (read_blocks v)

unfoldable pub as_rows : ℕ → List ℕ → Contents (List Row) Fault
as_rows n v = tabled identifiers_rows (read_identifiers n v)
