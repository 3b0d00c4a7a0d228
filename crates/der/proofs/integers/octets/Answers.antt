-- `der::integers::octets` meets its contract. Assumes nothing.
use Rattle.number.proofs.Picks.{picks}
use Rattle.der.specs.Integer.{integer_size}
use Rattle.der.proofs.integers.octets.Goals as goal

pub returns-then-x-lt128 : goal.returns-then-x-lt128
unfolding integer_size
returns-then-x-lt128 c = search picks

pub returns-then-x-lt32768 : goal.returns-then-x-lt32768
unfolding integer_size
returns-then-x-lt32768 c = search picks depth 9

pub returns-then-x-lt8388608 : goal.returns-then-x-lt8388608
unfolding integer_size
returns-then-x-lt8388608 c = search picks depth 9

pub returns-then-x-lt2147483648 : goal.returns-then-x-lt2147483648
unfolding integer_size
returns-then-x-lt2147483648 c = search picks depth 9

pub returns : goal.returns
unfolding integer_size
returns c = search picks depth 9
