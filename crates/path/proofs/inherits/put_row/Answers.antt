-- `path::inherits::put_row` meets its contract. Assumes nothing.
use borrow.Author.Rules.{rules}
use Rattle.path.proofs.Putting.{row_lists}
use Rattle.path.proofs.inherits.put_row.Goals as goal

pub returns : goal.returns
returns c = search (row_lists, rules)
