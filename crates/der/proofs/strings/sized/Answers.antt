-- `der::strings::sized` meets its contract. Assumes nothing.
use Rattle.number.proofs.Picks.{picks}
use Rattle.der.specs.Strings.{is_sized}
use Rattle.der.proofs.strings.sized.Goals as goal

pub returns-then-contents-least : goal.returns-then-contents-least
unfolding is_sized
returns-then-contents-least c = search picks

pub returns : goal.returns
unfolding is_sized
returns c = search picks
