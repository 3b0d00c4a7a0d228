-- Rows after inheritance: "A certificate holds in a space what it lists there; where it inherits, what its issuer holds there; else nothing."
use Rattle.std.specs.Prelude.{ℕ, min, ◌+◌, ◌-◌, ◌≤◌, ◌≡◌, List, [], ◌∷◌, ◌++◌, Bool, true, false, length, ltb, eqb, Result, Ok, Err}
use Rattle.number.specs.Tests.{pick}
use Rattle.table.specs.Sizes.{max_rows, table_numbers}
use Rattle.table.specs.Rows.{Row, room, rows_of, rows_in, with_rows}
use Rattle.table.specs.Holdings.{Has, Holds}
use Rattle.path.specs.declared.inherits.Uninherited.{Uninherited}
use Rattle.path.specs.declared.inherits.Uninherited.TheVariants as uninherited

-- what a certificate with these rows holds, below an issuer whose rows hold what the issuer holds
pub data Keeps (issuer : List Row) (s n : ℕ) : List Row → Type 0 where
  listed : {r : Row} {rs : List Row} → Has r s n → Keeps issuer s n (r ∷ rs)
  inherited : {r : Row} {rs : List Row} → r.inherit ≡ 1 → r.space ≡ s → Holds s n issuer → Keeps issuer s n (r ∷ rs)
  later : {r : Row} {rs : List Row} → Keeps issuer s n rs → Keeps issuer s n (r ∷ rs)

-- how many rows there are after inheritance, or why there are none
abbrev pub Inherited : Type 0
Inherited = Result ℕ Uninherited

-- the rows of one space
abbrev pub in_space : ℕ → List Row → List Row
in_space t [] = []
in_space t (r ∷ rs) = pick (eqb r.space t) (r ∷ in_space t rs) (in_space t rs)

-- the rows with each inherit row replaced by the issuer's rows of its space
abbrev pub resolved : List Row → List Row → List Row
resolved issuer [] = []
resolved issuer (r ∷ rs) = pick (eqb r.inherit 1) (in_space r.space issuer ++ resolved issuer rs) (r ∷ resolved issuer rs)

-- "inherit, and the issuer has no such space": the first of them, which is the lowest space in a table
pub data Spaces : Type 0 where
  all : Spaces
  lacks : ℕ → Spaces

abbrev pub or_lacks : ℕ → List Row → Spaces → Spaces
or_lacks t [] rest = lacks t
or_lacks t (i ∷ is) rest = rest

abbrev pub lacking : List Row → List Row → Spaces
lacking issuer [] = all
lacking issuer (r ∷ rs) = pick (eqb r.inherit 1) (or_lacks r.space (in_space r.space issuer) (lacking issuer rs)) (lacking issuer rs)

-- "14 by space, 11": the rows are counted after inheritance, and written where they are not too many
abbrev pub filled_in : Spaces → List Row → List ℕ → Inherited × List ℕ
filled_in (lacks t) rows own = (Err (uninherited.NoSpace t), own)
filled_in all rows own = pick (ltb max_rows (length rows)) (Err uninherited.TooMany, own) (Ok (length rows), with_rows own 0 rows)

unfoldable pub inherit : ℕ → List ℕ → ℕ → List ℕ → Inherited × List ℕ
inherit n own m issuer =
    pick (ltb (length own) table_numbers) (Err uninherited.Short, own)
    (filled_in (lacking (rows_in m issuer) (rows_in n own)) (resolved (rows_in m issuer) (rows_in n own)) own)

-- WHAT THE CODE SAYS

-- whether one of the rows inherits
abbrev pub inherits : List Row → Bool
inherits [] = false
inherits (r ∷ rs) = pick (eqb r.inherit 1) true (inherits rs)

-- the rows that one row is after inheritance
abbrev pub replaced : List Row → Row → List Row
replaced issuer r = pick (eqb r.inherit 1) (in_space r.space issuer) (r ∷ [])

-- a space that the issuer does not have, or how many rows there are after inheritance: one more than a table has stands for all that are too many
abbrev pub told : Spaces → ℕ → Inherited
told (lacks t) k = Err (uninherited.NoSpace t)
told all k = Ok (min k (max_rows + 1))

unfoldable pub count_of : List Row → List Row → Inherited
count_of issuer rows = told (lacking issuer rows) (length (resolved issuer rows))

-- rows written up to row `end`, and where they start
unfoldable pub up_to : List ℕ → ℕ → List Row → ℕ × List ℕ
up_to t end rows = (end - length rows, with_rows t (end - length rows) rows)

-- the first k rows of a run are yet to be written where they go after inheritance, which is up to row w
pub record Filling (issuer : List Row) (t : List ℕ) (k w : ℕ) : Type 0 where
  pub there : k ≤ room t
  pub covered : lacking issuer (rows_of k t) ≡ all
  pub upto : w ≡ length (resolved issuer (rows_of k t))
