-- `report::Text::hex_field` meets its contract. Assumes nothing.
use mathlib.Core.List.{[], ◌∷◌}
use Rattle.number.specs.Halves.{whole}
use Rattle.report.specs.Text.{blank, hexadecimal, hex_field}
use Rattle.report.proofs.Putting.{begin, first_fits, next_fits, onward, end}
use Rattle.report.proofs.Text.hex_field.Goals as goal

pub put-requires : goal.put-requires
unfolding hex_field
put-requires c = first_fits c.args.self.now.out.now c.args.self.now.at (blank ∷ []) (hexadecimal (whole c.args.n) ∷ []) c.requires

-- a blank is written
pub hexadecimal-requires : goal.hexadecimal-requires
unfolding hex_field
hexadecimal-requires c = next_fits (begin c.args.self.now.out.now c.args.self.now.at (blank ∷ []) (hexadecimal (whole c.args.n) ∷ []) c.requires c.put.ensures.written)

-- and then the number
pub returns-clause-written : goal.returns-clause-written
unfolding hex_field
returns-clause-written c = end (onward (begin c.args.self.now.out.now c.args.self.now.at (blank ∷ []) (hexadecimal (whole c.args.n) ∷ []) c.requires c.put.ensures.written) c.hexadecimal.ensures.written)
