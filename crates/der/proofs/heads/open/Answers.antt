-- `der::heads::open` meets its contract. Assumes nothing.
use Rattle.number.proofs.Picks.{picks}
use Rattle.der.specs.Opening.{opening_of}
use Rattle.der.proofs.heads.open.Goals as goal

pub returns-then-s-eq0 : goal.returns-then-s-eq0
unfolding opening_of
returns-then-s-eq0 c = search picks

pub returns-then-s-tag : goal.returns-then-s-tag
unfolding opening_of
returns-then-s-tag c = search picks

pub returns : goal.returns
unfolding opening_of
returns c = search picks
