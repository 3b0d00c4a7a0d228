-- `der::integers::read` meets its contract. Assumes nothing.
use Rattle.number.proofs.Picks.{picks, via}
use Rattle.der.specs.Integer.{integer_of}
use Rattle.der.proofs.Beginnings.{spelt, is_as}
use Rattle.der.proofs.integers.read.Goals as goal

pub returns-then-contents-eq0 : goal.returns-then-contents-eq0
unfolding integer_of
returns-then-contents-eq0 c = search (picks, via) depth 12 fits 20000

pub returns-then-contents-ge128 : goal.returns-then-contents-ge128
unfolding integer_of
returns-then-contents-ge128 c = search (picks, via) depth 12 fits 20000

pub returns-then-is_padded : goal.returns-then-is_padded
unfolding integer_of
returns-then-is_padded c = search (picks, via) depth 12 fits 20000

pub returns-then-contents-gt5 : goal.returns-then-contents-gt5
unfolding integer_of
returns-then-contents-gt5 c = search (picks, via) depth 12 fits 20000

pub returns-then-x-gt4294967295 : goal.returns-then-x-gt4294967295
unfolding integer_of
returns-then-x-gt4294967295 c = search (spelt, picks, via) depth 12 fits 20000

pub returns : goal.returns
unfolding integer_of
returns c = search (spelt, is_as, picks, via) depth 12 fits 20000
