-- `face::rch_fault` meets its contract. Assumes nothing.
use Rattle.std.proofs.Common.{rules}
use Rattle.face.proofs.Replying.{fault_short, fault_told}
use Rattle.face.proofs.rch_fault.Goals as goal

pub returns-then-reply-lt-NUMBERS : goal.returns-then-reply-lt-NUMBERS
returns-then-reply-lt-NUMBERS c = search (fault_short, rules)

pub returns : goal.returns
returns c = search (fault_told, rules)
