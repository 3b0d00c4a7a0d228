-- `number::kept::zeros` meets its contract. Assumes nothing.
use borrow.Author.Rules.{rules}
use Rattle.number.proofs.Ends.{at_width}
use Rattle.number.proofs.kept.zeros.Goals as goal

pub returns : goal.returns
returns c = search (at_width, rules)
