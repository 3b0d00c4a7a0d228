-- `number::kept::kept_max` meets its contract. Assumes nothing.
use borrow.Author.Rules.{rules}
use Rattle.number.proofs.Ends.{run_fits, run_room, max_none, max_kept, max_lost}
use Rattle.number.proofs.kept.kept_max.Goals as goal

pub overflow_sub-kept : goal.overflow_sub-kept
overflow_sub-kept c = search (run_fits, rules)

pub returns-then-run-eq0 : goal.returns-then-run-eq0
returns-then-run-eq0 c = search (max_none, rules)

pub cut-left-requires : goal.cut-left-requires
cut-left-requires c = search (run_room, rules)

pub returns-then-eq : goal.returns-then-eq
returns-then-eq c = search (max_kept, rules)

pub returns-else-eq : goal.returns-else-eq
returns-else-eq c = search (max_lost, rules)
