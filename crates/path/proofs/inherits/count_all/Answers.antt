-- `path::inherits::count_all` meets its contract. Assumes nothing.
use borrow.Author.Rules.{rules}
use Rattle.path.proofs.Counting.{tally_start, tally_fits, tally_lacks, tally_turn, tally_end}
use Rattle.path.proofs.inherits.count_all.Goals as goal

pub loop-k-init : goal.loop-k-init
loop-k-init c = search (tally_start, rules)

pub returns-then-more-eq0 : goal.returns-then-more-eq0
returns-then-more-eq0 c = search (tally_lacks, rules)

pub overflow_add-total : goal.overflow_add-total
overflow_add-total c = search (tally_fits, rules)

pub loop-k-preserved : goal.loop-k-preserved
loop-k-preserved c = search (tally_turn, rules)

pub returns : goal.returns
returns c = search (tally_end, rules)
