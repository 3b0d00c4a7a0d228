-- `number::kept::kept_min` meets its contract. Assumes nothing.
use Rattle.std.proofs.Common.{rules}
use Rattle.number.specs.Kept.{kept_min}
use Rattle.number.proofs.Ends.{run_fits}
use Rattle.number.proofs.kept.kept_min.Goals as goal

pub overflow_sub-result : goal.overflow_sub-result
overflow_sub-result c = search (run_fits, rules)

pub returns : goal.returns
unfolding kept_min
returns c = rw (c.bits.ensures, c.zeros.ensures)
