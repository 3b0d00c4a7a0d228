-- `table::rows::put` meets its contract. Assumes nothing.
use Rattle.std.proofs.Common.{rules}
use Rattle.table.proofs.Columns.{put_none, put_row}
use Rattle.table.proofs.rows.put.Goals as goal

pub returns-then-run-n : goal.returns-then-run-n
returns-then-run-n c = search (put_none, rules)

pub returns : goal.returns
returns c = search (put_row, rules)
