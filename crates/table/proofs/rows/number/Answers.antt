-- `table::rows::number` meets its contract. Assumes nothing.
use Rattle.std.proofs.Common.{rules}
use Rattle.table.proofs.Columns.{column_none, column_read}
use Rattle.table.proofs.rows.number.Goals as goal

pub returns-then-run-n : goal.returns-then-run-n
returns-then-run-n g c = search (column_none, rules)

pub returns : goal.returns
returns g c = search (column_read, rules)
