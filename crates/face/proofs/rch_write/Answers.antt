-- `face::rch_write` meets its contract. Assumes nothing.
use Rattle.std.proofs.Common.{rules}
use Rattle.face.proofs.Replying.{write_short, write_told}
use Rattle.face.proofs.rch_write.Goals as goal

pub returns-then-reply-lt-NUMBERS : goal.returns-then-reply-lt-NUMBERS
returns-then-reply-lt-NUMBERS c = search (write_short, rules)

pub returns : goal.returns
returns c = search (write_told, rules)
