-- `number::halves::next` meets its contract. Assumes nothing.
use Rattle.std.proofs.Common.{rules}
use Rattle.number.proofs.TwoHalves.{next_lower, next_upper, next_last}
use Rattle.number.proofs.halves.next.Goals as goal

pub returns-then-a-lt18446744073709551615 : goal.returns-then-a-lt18446744073709551615
returns-then-a-lt18446744073709551615 c = search (next_lower, rules)

pub returns-then-a-lt18446744073709551615-2 : goal.returns-then-a-lt18446744073709551615-2
returns-then-a-lt18446744073709551615-2 c = search (next_upper, rules)

pub returns : goal.returns
returns c = search (next_last, rules)
