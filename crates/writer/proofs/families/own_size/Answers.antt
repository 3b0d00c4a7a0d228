-- `writer::families::own_size` meets its contract. Assumes nothing.
use borrow.Author.Rules.{rules}
use Rattle.writer.proofs.Framing.{own_inherit, own_element}
use Rattle.writer.proofs.families.own_size.Goals as goal

pub returns-then-row-eq1 : goal.returns-then-row-eq1
returns-then-row-eq1 c = search (own_inherit, rules)

pub returns : goal.returns
returns c = search (own_element, rules)
