-- `face::rch_read_ip` meets its contract. Assumes nothing.
use Rattle.std.proofs.Common.{rules}
use Rattle.face.proofs.Replying.{ip_short, ip_told}
use Rattle.face.proofs.rch_read_ip.Goals as goal

pub returns-then-reply-lt-NUMBERS : goal.returns-then-reply-lt-NUMBERS
returns-then-reply-lt-NUMBERS c = search (ip_short, rules)

pub returns : goal.returns
returns c = search (ip_told, rules)
