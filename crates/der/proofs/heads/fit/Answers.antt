-- `der::heads::fit` meets its contract. Assumes nothing.
use Rattle.number.proofs.Picks.{picks}
use Rattle.der.specs.Opening.{fitted}
use Rattle.der.proofs.heads.fit.Goals as goal

pub returns-then-len-k : goal.returns-then-len-k
unfolding fitted
returns-then-len-k c = search picks

pub returns : goal.returns
unfolding fitted
returns c = search picks
