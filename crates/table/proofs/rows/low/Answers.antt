-- `table::rows::low` meets its contract. Assumes nothing.
use Rattle.std.proofs.Common.{rules}
use Rattle.table.proofs.Columns.{row_low}
use Rattle.table.proofs.rows.low.Goals as goal

pub returns : goal.returns
returns c = row_low _ _ _ _ (search rules) c.number.ensures c.number-2.ensures
