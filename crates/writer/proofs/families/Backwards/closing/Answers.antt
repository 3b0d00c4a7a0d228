-- `writer::families::Backwards::closing` meets its contract. Assumes nothing.
use borrow.Author.Rules.{rules}
use borrow.Author.Tests.{not-true}
use Rattle.writer.proofs.Framing.{closing_nothing, closing_room, closing_done}
use Rattle.writer.proofs.families.Backwards.closing.Goals as goal

pub close-requires : goal.close-requires
close-requires c = (search rules, search (closing_room, not-true, rules))

pub returns-then-not-joins-clause-written : goal.returns-then-not-joins-clause-written
returns-then-not-joins-clause-written c = search (closing_done, rules)

pub returns-else-not-joins-clause-written : goal.returns-else-not-joins-clause-written
returns-else-not-joins-clause-written c = search (closing_nothing, rules)
