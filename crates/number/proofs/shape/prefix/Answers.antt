-- `number::shape::prefix` meets its contract. Assumes nothing.
use Rattle.std.proofs.Common.{rules}
use Rattle.number.proofs.Telling.{free_fits, prefix_is}
use Rattle.number.proofs.shape.prefix.Goals as goal

pub overflow_sub-count : goal.overflow_sub-count
overflow_sub-count c = search (free_fits, rules)

pub returns : goal.returns
returns c = search (prefix_is, rules)
