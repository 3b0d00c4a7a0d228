-- `face::rch_read_as` meets its contract. Assumes nothing.
use Rattle.std.proofs.Common.{rules}
use Rattle.face.proofs.Replying.{as_short, as_told}
use Rattle.face.proofs.rch_read_as.Goals as goal

pub returns-then-reply-lt-NUMBERS : goal.returns-then-reply-lt-NUMBERS
returns-then-reply-lt-NUMBERS c = search (as_short, rules)

pub returns : goal.returns
returns c = search (as_told, rules)
