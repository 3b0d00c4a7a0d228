-- `der::heads::put_head` meets its contract. Assumes nothing.
use Rattle.std.proofs.Common.{rules}
use Rattle.der.proofs.Putting.{at_0, at_1, at_2, at_3, put_none, put_long, put_past, put_one, put_two, put_three}
use Rattle.der.proofs.heads.put_head.Goals as goal

pub returns-then-n-gt65535 : goal.returns-then-n-gt65535
returns-then-n-gt65535 c = search (put_none, rules)

pub returns-then-out-k : goal.returns-then-out-k
returns-then-out-k c = search (put_long, rules)

pub returns-then-out-k-2 : goal.returns-then-out-k-2
returns-then-out-k-2 c = search (put_past, rules)

pub bounds-out-at : goal.bounds-out-at
bounds-out-at c = search (at_0, rules)

pub bounds-out-at-then-n-lt128 : goal.bounds-out-at-then-n-lt128
bounds-out-at-then-n-lt128 c = search (at_1, rules)

pub returns-then-n-lt128 : goal.returns-then-n-lt128
returns-then-n-lt128 c = search (put_one, rules)

pub bounds-out-at-then-n-lt256 : goal.bounds-out-at-then-n-lt256
bounds-out-at-then-n-lt256 c = search (at_1, rules)

pub bounds-out-at-then-n-lt256-2 : goal.bounds-out-at-then-n-lt256-2
bounds-out-at-then-n-lt256-2 c = search (at_2, rules)

pub returns-then-n-lt256 : goal.returns-then-n-lt256
returns-then-n-lt256 c = search (put_two, rules)

pub bounds-out-at-2 : goal.bounds-out-at-2
bounds-out-at-2 c = search (at_1, rules)

pub bounds-out-at-3 : goal.bounds-out-at-3
bounds-out-at-3 c = search (at_2, rules)

pub bounds-out-at-4 : goal.bounds-out-at-4
bounds-out-at-4 c = search (at_3, rules)

pub returns : goal.returns
returns c = search (put_three, rules)
