-- The walk of document 01, "The path", over own and issuer's rows after inheritance: its result and the number of pairs looked at. A definition that runs.
use Rattle.std.specs.Prelude.{ℕ, suc, ◌+◌, List, [], ◌∷◌, Bool, false, ltb, leb, eqb, Some, None}
use Rattle.number.specs.Tests.{pick}
use Rattle.number.specs.Halves.{halves}
use Rattle.table.specs.Rows.{Row}
use Rattle.path.specs.declared.walks.Meet.{Meet}
use Rattle.path.specs.declared.walks.Meet.TheVariants as meet
use Rattle.path.specs.declared.walks.Walked as code

-- every own row is covered, or the smallest number that own holds and the issuer does not: its space and the number
pub data Result : Type 0 where
  covered : Result
  missing : ℕ → ℕ → Result

pub record Walked : Type 0 where
  pub result : Result
  pub pairs : ℕ

-- own row o lies within issuer's row i: "If the own row lies within the issuer's row, go to the next own row"
abbrev pub within : Row → Row → Bool
within o i = pick (eqb o.space i.space) (pick (leb i.low o.low) (leb o.high i.high) false) false

-- "if the issuer's row ends before the own row begins (space first), go to its next row"
abbrev pub passed : Row → Row → Bool
passed o i = pick (eqb o.space i.space) (ltb i.high o.low) (ltb i.space o.space)

-- "otherwise stop": what of o is missing is what follows i if o begins in i, else o's first number
abbrev pub gap : Row → Row → ℕ
gap o i = pick (eqb o.space i.space) (pick (leb i.low o.low) (i.high + 1) o.low) o.low

abbrev pub counted : Walked → Walked
counted w = record { result = w.result; pairs = suc w.pairs }

abbrev pub stopped : Row → ℕ → ℕ → Walked
stopped o n k = record { result = missing o.space n; pairs = k }

-- own row o against issuer's rows; next is the walk of the own rows after o. "A pair is counted." "It also stops when either side is used up."
unfoldable pub against : Row → (List Row → Walked) → List Row → Walked
against o next [] = stopped o o.low 0
against o next (i ∷ is) =
    pick (within o i) (counted (next (i ∷ is)))
    (pick (passed o i) (counted (against o next is))
    (stopped o (gap o i) 1))

unfoldable pub walk : List Row → List Row → Walked
walk [] issuer = record { result = covered; pairs = 0 }
walk (o ∷ os) issuer = against o (walk os) issuer

-- WHAT THE CODE SAYS

unfoldable pub meet_of : Row → Row → Meet
meet_of o i = pick (within o i) meet.Within (pick (passed o i) meet.Passed (meet.Apart (halves (gap o i))))

abbrev pub replied : Result → ℕ → code.Walked
replied covered k = record { missing = None; pairs = k }
replied (missing s n) k = record { missing = Some (record { space = s; value = halves n }); pairs = k }

abbrev pub walked_of : Walked → code.Walked
walked_of w = replied w.result w.pairs
