-- `path::inherits::count_in` meets its contract. Assumes nothing.
use borrow.Author.Rules.{rules}
use Rattle.path.proofs.Counting.{count_start, count_end, count_yes, count_no}
use Rattle.path.proofs.inherits.count_in.Goals as goal
use Rattle.path.proofs.inherits.count_in.Goals.{then-space, else-space}

pub loop-k-init : goal.loop-k-init
loop-k-init c = search (count_start, rules)

pub overflow_add-n : goal.overflow_add-n
overflow_add-n c = search (c.loop-k.invariant.few, rules)

pub loop-k-preserved : goal.loop-k-preserved
loop-k-preserved c =
    elim c.if-space.branch [
      | then-space w ↦ search (count_yes, rules)
      | else-space w ↦ search (count_no, rules)
    ]

pub returns : goal.returns
returns c = search (count_end, rules)
