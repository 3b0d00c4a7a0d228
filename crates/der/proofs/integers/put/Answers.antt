-- `der::integers::put` meets its contract. Assumes nothing.
use borrow.Author.Rules.{rules}
use Rattle.der.proofs.Pasting.{few_octets, integer_put}
use Rattle.der.proofs.integers.put.Goals as goal

pub overflow_sub-k : goal.overflow_sub-k
overflow_sub-k c = search (few_octets, rules)

pub returns : goal.returns
returns c = search (integer_put, rules)
