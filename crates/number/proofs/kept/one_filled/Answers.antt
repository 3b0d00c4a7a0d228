-- `number::kept::one_filled` meets its contract. Assumes nothing.
use Rattle.number.specs.Kept.{one_filled}
use Rattle.number.proofs.kept.one_filled.Goals as goal

pub returns : goal.returns
unfolding one_filled
returns c = rw (← c.lost.ensures) c.filled.ensures
