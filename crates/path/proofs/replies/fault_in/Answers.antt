-- `path::replies::fault_in` meets its contract. Assumes nothing.
use Rattle.std.proofs.Common.{rules}
use Rattle.number.proofs.Picks.{picks}
use Rattle.path.specs.Replies.{extension_of}
use Rattle.path.proofs.replies.fault_in.Goals as goal

pub returns-then-space-lt-AS_NUMBERS : goal.returns-then-space-lt-AS_NUMBERS
unfolding extension_of
returns-then-space-lt-AS_NUMBERS c = search (picks, rules)

pub returns-else-space-lt-AS_NUMBERS : goal.returns-else-space-lt-AS_NUMBERS
unfolding extension_of
returns-else-space-lt-AS_NUMBERS c = search (picks, rules)
