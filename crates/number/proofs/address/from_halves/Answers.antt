-- `number::address::from_halves` meets its contract. Assumes nothing.
use borrow.Author.Rules.{rules}
use Rattle.number.proofs.Sixteen.{all_stored}
use Rattle.number.proofs.address.from_halves.Goals as goal

pub returns : goal.returns
returns c = search (all_stored, rules)
