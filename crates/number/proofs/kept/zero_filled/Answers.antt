-- `number::kept::zero_filled` meets its contract. Assumes nothing.
use Rattle.number.specs.Kept.{zero_filled}
use Rattle.number.proofs.kept.zero_filled.Goals as goal

pub returns : goal.returns
unfolding zero_filled
returns c = rw (← c.lost.ensures) c.cut.ensures
