-- `der::bits::put` meets its contract. Assumes nothing.
use borrow.Author.Rules.{rules}
use Rattle.der.proofs.Pasting.{many_bits, bits_past, bits_room, bits_put}
use Rattle.der.proofs.bits.put.Goals as goal

pub returns-then-count-gt128 : goal.returns-then-count-gt128
returns-then-count-gt128 c = search (many_bits, rules)

pub returns-then-out-at : goal.returns-then-out-at
returns-then-out-at c = search (bits_past, rules)

pub returns-then-out-at-2 : goal.returns-then-out-at-2
returns-then-out-at-2 c = search (bits_room, rules)

pub returns : goal.returns
returns c = search (bits_put, rules)
