-- `writer::families::open_size` meets its contract. Assumes nothing.
use borrow.Author.Rules.{rules}
use Rattle.writer.proofs.Framing.{open_zero, open_sum}
use Rattle.writer.proofs.families.open_size.Goals as goal

pub returns-in-Some : goal.returns-in-Some
returns-in-Some c = search (open_sum, rules)

pub returns-in-None : goal.returns-in-None
returns-in-None c = (search (open_zero, rules), search rules)
