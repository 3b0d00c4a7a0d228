-- `table::rows::inherit` meets its contract. Assumes nothing.
use mathlib.Core.Path.{ap, ◌∙◌}
use Rattle.table.specs.Rows.{Row}
use Rattle.table.proofs.Columns.{row_columns}
use Rattle.table.proofs.rows.inherit.Goals as goal

pub returns : goal.returns
returns c = c.number.ensures ∙ ap (λ (r : Row). r.inherit) (row_columns c.args.run.now c.args.n)
