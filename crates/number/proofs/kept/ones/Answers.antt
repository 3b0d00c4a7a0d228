-- `number::kept::ones` meets its contract. Assumes nothing.
use Rattle.std.proofs.Common.{rules}
use Rattle.number.proofs.TwoHalves.{whole_below}
use Rattle.number.proofs.Ends.{ones_flipped}
use Rattle.number.proofs.kept.ones.Goals as goal

pub returns : goal.returns
returns c = search (ones_flipped, whole_below, rules)
