-- `der::writing::put` meets its contract. Assumes nothing.
use Rattle.std.proofs.Common.{rules}
use Rattle.der.proofs.Pasting.{past_end, past_room, copied}
use Rattle.der.proofs.writing.put.Goals as goal

pub returns-then-out-at : goal.returns-then-out-at
returns-then-out-at c = search (past_end, rules)

pub returns-then-out-at-2 : goal.returns-then-out-at-2
returns-then-out-at-2 c = search (past_room, rules)

pub returns : goal.returns
returns c = search (copied, rules)
