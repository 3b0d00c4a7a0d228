-- `report::Text::field` meets its contract. Assumes nothing.
use mathlib.Core.List.{[], ◌∷◌}
use Rattle.report.specs.Text.{blank, decimal, field}
use Rattle.report.proofs.Putting.{begin, first_fits, next_fits, onward, end}
use Rattle.report.proofs.Text.field.Goals as goal

pub put-requires : goal.put-requires
unfolding field
put-requires c = first_fits c.args.self.now.out.now c.args.self.now.at (blank ∷ []) (decimal c.args.n ∷ []) c.requires

-- a blank is written
pub decimal-requires : goal.decimal-requires
unfolding field
decimal-requires c = next_fits (begin c.args.self.now.out.now c.args.self.now.at (blank ∷ []) (decimal c.args.n ∷ []) c.requires c.put.ensures.written)

-- and then the number
pub returns-clause-written : goal.returns-clause-written
unfolding field
returns-clause-written c = end (onward (begin c.args.self.now.out.now c.args.self.now.at (blank ∷ []) (decimal c.args.n ∷ []) c.requires c.put.ensures.written) c.decimal.ensures.written)
