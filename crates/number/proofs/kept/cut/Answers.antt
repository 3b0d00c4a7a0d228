-- `number::kept::cut` meets its contract. Assumes nothing.
use Rattle.std.proofs.Common.{rules}
use Rattle.number.proofs.Cuts.{cut_lower, cut_upper}
use Rattle.number.proofs.kept.cut.Goals as goal

pub returns-then-j-lt64 : goal.returns-then-j-lt64
returns-then-j-lt64 c = search (cut_lower, rules)

pub returns-then-j-lt128 : goal.returns-then-j-lt128
returns-then-j-lt128 c = search (cut_upper, rules)
