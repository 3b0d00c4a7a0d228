-- `path::inherits::put_space` meets its contract. Assumes nothing.
use borrow.Author.Rules.{rules}
use Rattle.path.proofs.Putting.{place_room, place_yes, place_no, place_end}
use Rattle.path.proofs.inherits.put_space.Goals as goal

pub overflow_sub-w : goal.overflow_sub-w
overflow_sub-w c = search (place_room, rules)

pub loop-k-preserved-then-row-space : goal.loop-k-preserved-then-row-space
loop-k-preserved-then-row-space c = search (place_yes, rules)

pub loop-k-preserved : goal.loop-k-preserved
loop-k-preserved c = search (place_no, rules)

pub returns : goal.returns
returns c = search (place_end, rules)
