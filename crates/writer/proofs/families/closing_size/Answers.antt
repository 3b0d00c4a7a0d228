-- `writer::families::closing_size` meets its contract. Assumes nothing.
use borrow.Author.Rules.{rules}
use Rattle.writer.proofs.Framing.{closing_zero, closing_sum}
use Rattle.writer.proofs.families.closing_size.Goals as goal

pub returns-then-joins : goal.returns-then-joins
returns-then-joins c = search (closing_zero, rules)

pub returns : goal.returns
returns c = search (closing_sum, rules)
