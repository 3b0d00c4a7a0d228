-- `path::paths::descend_all` meets its contract. Assumes nothing.
use Rattle.std.proofs.Common.{rules}
use Rattle.path.proofs.Anchored.{descend_even, descend_odd}
use Rattle.path.proofs.paths.descend_all.Goals as goal

pub returns-then-count-eq0 : goal.returns-then-count-eq0
returns-then-count-eq0 c = search (descend_even, rules)

pub returns : goal.returns
returns c = search (descend_odd, rules)
