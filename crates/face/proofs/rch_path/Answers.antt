-- `face::rch_path` meets its contract. Assumes nothing.
use Rattle.std.proofs.Common.{rules}
use Rattle.face.proofs.Replying.{path_short, path_told}
use Rattle.face.proofs.rch_path.Goals as goal

pub returns-then-reply-lt-NUMBERS : goal.returns-then-reply-lt-NUMBERS
returns-then-reply-lt-NUMBERS c = search (path_short, rules)

pub returns : goal.returns
returns c = search (path_told, rules)
