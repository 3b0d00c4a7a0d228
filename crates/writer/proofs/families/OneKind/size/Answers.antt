-- `writer::families::OneKind::size` meets its contract. Assumes nothing.
use borrow.Author.Rules.{rules}
use Rattle.writer.proofs.Counting.{count_start, count_turn, count_end, count_few}
use Rattle.writer.proofs.Passing.{pass_own}
use Rattle.writer.proofs.families.OneKind.size.Goals as goal

pub loop-k-init : goal.loop-k-init
loop-k-init c = search (count_start, rules)

pub own_size-n-requires : goal.own_size-n-requires
own_size-n-requires c = search (pass_own, rules)

pub loop-k-preserved : goal.loop-k-preserved
loop-k-preserved c = search (count_turn, rules)

pub returns : goal.returns
returns c = search (count_end, count_few, rules)
