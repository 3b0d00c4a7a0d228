-- `table::spaces::width` meets its contract. Assumes nothing.
use borrow.Author.Rules.{rules}
use Rattle.number.proofs.Picks.{picks, via}
use Rattle.table.specs.Spaces.{width_of}
use Rattle.table.proofs.spaces.width.Goals as goal

pub returns-then-between : goal.returns-then-between
unfolding width_of
returns-then-between c = search (via, picks, rules)

pub returns-else-between : goal.returns-else-between
unfolding width_of
returns-else-between c = search (via, picks, rules)
