-- `table::rows::high` meets its contract. Assumes nothing.
use Rattle.std.proofs.Common.{rules}
use Rattle.table.proofs.Columns.{row_high}
use Rattle.table.proofs.rows.high.Goals as goal

pub returns : goal.returns
returns c = row_high _ _ _ _ (search rules) c.number.ensures c.number-2.ensures
