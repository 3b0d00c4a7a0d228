-- `path::paths::clear_rest` meets its contract. Assumes nothing.
use Rattle.std.proofs.Common.{rules}
use Rattle.path.proofs.Overwritten.{rest_none, rest_lent}
use Rattle.path.proofs.paths.clear_rest.Goals as goal

pub returns-then-n-old : goal.returns-then-n-old
returns-then-n-old c = search (rest_lent, rules)

pub returns-else-n-old : goal.returns-else-n-old
returns-else-n-old c = search (rest_none, rules)
