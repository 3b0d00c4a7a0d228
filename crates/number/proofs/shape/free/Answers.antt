-- `number::shape::free` meets its contract. Assumes nothing.
use borrow.Author.Rules.{rules}
use Rattle.number.proofs.Telling.{free_is}
use Rattle.number.proofs.shape.free.Goals as goal

pub returns : goal.returns
returns c = search (free_is, rules)
