-- `der::heads::head_size` meets its contract. Assumes nothing.
use Rattle.number.proofs.Picks.{picks}
use Rattle.der.specs.Head.{head_size}
use Rattle.der.proofs.heads.head_size.Goals as goal

pub returns-then-n-lt128 : goal.returns-then-n-lt128
unfolding head_size
returns-then-n-lt128 c = search picks

pub returns-then-n-lt256 : goal.returns-then-n-lt256
unfolding head_size
returns-then-n-lt256 c = search picks

pub returns : goal.returns
unfolding head_size
returns c = search picks
