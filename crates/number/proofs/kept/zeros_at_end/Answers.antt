-- `number::kept::zeros_at_end` meets its contract. Assumes nothing.
use Rattle.std.proofs.Common.{rules}
use Rattle.number.proofs.Ends.{zeros_upper, zeros_lower}
use Rattle.number.proofs.kept.zeros_at_end.Goals as goal

pub returns-then-n-eq0 : goal.returns-then-n-eq0
returns-then-n-eq0 c = search (zeros_upper, rules)

pub returns : goal.returns
returns c = search (zeros_lower, rules)
