-- `path::walks::how` meets its contract. Assumes nothing.
use Rattle.std.proofs.Common.{rules}
use Rattle.number.proofs.laws.Orders.{halves_below}
use Rattle.path.proofs.Meeting.{meet_within, meet_passed, meet_behind, meet_before, meet_beyond, meet_earlier, meet_later}
use Rattle.path.proofs.walks.how.Goals as goal

pub returns-then-lt-2 : goal.returns-then-lt-2
returns-then-lt-2 c = search (meet_passed, halves_below, rules)

pub returns-then-lt-3 : goal.returns-then-lt-3
returns-then-lt-3 c = search (meet_behind, halves_below, rules)

pub returns-then-lt : goal.returns-then-lt
returns-then-lt c = search (meet_within, halves_below, rules)

pub returns-then-lt-4 : goal.returns-then-lt-4
returns-then-lt-4 c = search (meet_before, halves_below, rules)

pub returns-then-lt-5 : goal.returns-then-lt-5
returns-then-lt-5 c = search (meet_beyond, halves_below, rules)

pub returns-then-space-held : goal.returns-then-space-held
returns-then-space-held c = search (meet_within, halves_below, rules)

pub returns-then-held-space : goal.returns-then-held-space
returns-then-held-space c = search (meet_earlier, halves_below, rules)

pub returns : goal.returns
returns c = search (meet_later, halves_below, rules)
