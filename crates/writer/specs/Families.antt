-- The families of a table's rows, as the writer passes them: from the last row to the first, each row's own octets in front of what was written.
use Rattle.std.specs.Prelude.{ℕ, ◌+◌, ◌≤◌, ◌≡◌, List, [], ◌++◌, Bool, true, false, Option, Some, None, IfSome, length, eqb}
use Rattle.number.specs.Tests.{pick}
use Rattle.table.specs.Spaces.{mixed_kind, kind_of}
use Rattle.table.specs.Rows.{Row, room, rows_of}
use Rattle.table.specs.Tables.{is_table}
use Rattle.der.specs.Tags.{SEQUENCE}
use Rattle.der.specs.Head.{head_octets}
use Rattle.der.specs.Walk.{all}
use Rattle.der.specs.Written.{written}
use Rattle.values.specs.Choices.{inherit}
use Rattle.values.specs.Encode.{grouped, row_octets, group_octets, group_heads}
use Rattle.writer.specs.Writer.{list_most, element_size, Lists}
use Rattle.writer.specs.declared.families.Open.{Open}

-- the octets of all families of a table
unfoldable pub families : ℕ → List ℕ → List ℕ
families kind t = all (group_octets kind) (grouped (rows_of (room t) t))

-- a table of one kind
pub record Table (kind : ℕ) (t : List ℕ) : Type 0 where
  pub one : kind ≡ mixed_kind → ⊥
  pub table : is_table kind t ≡ true

-- a row of such a table: its space is of the kind, and its numbers are of the space's width, if it lists any
pub record Own (kind : ℕ) (r : Row) : Type 0 where
  pub own : kind_of r.space ≡ kind
  pub lists : (r.inherit ≡ 1 → ⊥) → Lists kind r

-- what stands in a family, or in a member, before the contents of its choice: n octets after the tag
unfoldable pub frame : ℕ → ℕ → ℕ → ℕ → List ℕ
frame kind a tag n = group_heads kind a (element_size n) ++ head_octets tag n

-- THE OPEN LIST: the last rows of one space that were passed, whose heads are not written yet; there may be none

-- how many octets its elements have
abbrev pub size_in : Option Open → ℕ
size_in None = 0
size_in (Some o) = o.size

-- whether there is one, of a space
abbrev pub is_of : Option Open → ℕ → Bool
is_of None a = false
is_of (Some o) a = eqb a o.space

-- its space is of the kind, and its elements are few enough
pub record Opened (kind : ℕ) (list : Option Open) : Type 0 where
  pub own : IfSome list (λ o. kind_of o.space ≡ kind)
  pub few : size_in list ≤ list_most

-- its heads: what stands in its family before its elements
unfoldable pub open_heads : ℕ → Option Open → List ℕ
open_heads kind None = []
open_heads kind (Some o) = frame kind o.space SEQUENCE o.size

-- a row joins it if it lists numbers of its space
unfoldable pub joins : Option Open → Row → Bool
joins list r = pick (eqb r.inherit 1) false (is_of list r.space)

-- the heads that stand behind a row: those of the open list, if the row does not join it
unfoldable pub closing : ℕ → Option Open → Row → List ℕ
closing kind list r = pick (joins list r) [] (open_heads kind list)

-- a row's own octets: its family if it inherits, its element if it lists
unfoldable pub own : ℕ → Row → List ℕ
own kind r = pick (eqb r.inherit 1) (group_octets kind (r.space, inherit)) (row_octets kind r)

-- the open list with a row of n octets of its own in front
unfoldable pub onward : Option Open → Row → ℕ → Option Open
onward list r n =
    pick (eqb r.inherit 1) None
    (pick (is_of list r.space) (Some (record { space = r.space; size = size_in list + n }))
    (Some (record { space = r.space; size = n })))

-- octets s were written into a run up to a place: they start at `start`
pub record Upto (out : List ℕ) (end : ℕ) (s : List ℕ) (start : ℕ) (left : List ℕ) : Type 0 where
  pub place : start + length s ≡ end
  pub done : left ≡ written out start s
