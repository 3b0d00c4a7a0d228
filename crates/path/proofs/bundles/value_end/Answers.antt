-- `path::bundles::value_end` meets its contract. Assumes nothing.
use Rattle.std.proofs.Common.{rules}
use Rattle.number.proofs.Picks.{picks}
use Rattle.path.specs.Bundle.{end_of}
use Rattle.path.proofs.Framed.{end_at, end_cut}
use Rattle.path.proofs.bundles.value_end.Goals as goal

pub returns-then-s-lt2 : goal.returns-then-s-lt2
unfolding end_of
returns-then-s-lt2 c = search (picks, rules)

pub returns-then-s-end : goal.returns-then-s-end
returns-then-s-end c = search (end_cut, rules)

pub returns : goal.returns
returns c = search (end_at, rules)
