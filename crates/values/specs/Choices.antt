-- Inherit, or at least one element: "NULL (inherit) or a SEQUENCE of at least one element".
use Rattle.std.specs.Prelude.{ℕ, List, [], ◌∷◌, get_or, leb, eqb}
use Rattle.number.specs.Tests.{pick}
use Rattle.number.specs.declared.refusal.Refusal.TheVariants as refusal
use Rattle.table.specs.Sizes.{max_rows}
use Rattle.table.specs.Rows.{Row}
use Rattle.der.specs.Tags.{NULL, SEQUENCE}
use Rattle.der.specs.Strings.{is_null}
use Rattle.der.specs.Parts.{Contents, is, isnt, Part, tagged, sifted, filled}
use Rattle.values.specs.Faults.{Fault, at, moved}
use Rattle.values.specs.Elements.{elements_of}
use Rattle.values.specs.declared.elements.Space.{Space}

-- a space's numbers: the issuer's, or those listed from low to high
pub data Choice : Type 0 where
  inherit : Choice
  listed : List (ℕ × ℕ) → Choice

-- NULL has no contents, and is a row; n rows so far
unfoldable pub inherited : ℕ → List ℕ → Contents Choice Fault
inherited n c =
    pick (is_null c)
    (pick (leb max_rows n) (isnt (at 0 refusal.RowCount)) (is inherit))
    (isnt (at 0 refusal.Contents))

-- at least one element: "empty list" is refused at its SEQUENCE
unfoldable pub list_at : Space → ℕ → List ℕ → Part (List (ℕ × ℕ)) Fault
list_at a n = tagged (at 0) SEQUENCE (λ k c. filled (at 0 refusal.EmptyList) (moved k (elements_of a n c)))

unfoldable pub inherit_at : ℕ → List ℕ → Part Choice Fault
inherit_at n = tagged (at 0) NULL (λ k. inherited n)

unfoldable pub listed_at : Space → ℕ → List ℕ → Part Choice Fault
listed_at a n s = sifted (λ rs. is (listed rs)) (list_at a n s)

unfoldable pub choice_at : Space → ℕ → List ℕ → Part Choice Fault
choice_at a n s = pick (eqb (get_or s 0 0) NULL) (inherit_at n s) (listed_at a n s)

-- the rows of a choice in the space a
abbrev pub listed_row : ℕ → ℕ × ℕ → Row
listed_row a r = record { space = a; inherit = 0; low = r.0; high = r.1 }

abbrev pub listed_rows : ℕ → List (ℕ × ℕ) → List Row
listed_rows a [] = []
listed_rows a (r ∷ rs) = listed_row a r ∷ listed_rows a rs

abbrev pub inherit_row : ℕ → Row
inherit_row a = record { space = a; inherit = 1; low = 0; high = 0 }

abbrev pub choice_rows : ℕ → Choice → List Row
choice_rows a inherit = inherit_row a ∷ []
choice_rows a (listed rs) = listed_rows a rs
