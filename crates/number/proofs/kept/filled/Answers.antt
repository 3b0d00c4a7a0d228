-- `number::kept::filled` meets its contract. Assumes nothing.
use Rattle.std.proofs.Common.{rules}
use Rattle.number.proofs.TwoHalves.{whole_below}
use Rattle.number.proofs.Cuts.{filled_is}
use Rattle.number.proofs.kept.filled.Goals as goal

pub returns : goal.returns
returns c = search (filled_is, whole_below, rules)
