-- `writer::families::joins` meets its contract. Assumes nothing.
use borrow.Author.Rules.{rules}
use Rattle.number.proofs.Picks.{picks}
use Rattle.table.specs.Rows.{seen}
use Rattle.writer.specs.Families.{joins}
use Rattle.writer.proofs.Framing.{join_some, join_none}
use Rattle.writer.proofs.families.joins.Goals as goal

pub returns-then-row-ne1 : goal.returns-then-row-ne1
returns-then-row-ne1 c = join_some c.args.list (seen c.args.row) c.in-Some.open c.in-Some.is c.if-row-ne1.true

pub returns-else-row-ne1 : goal.returns-else-row-ne1
unfolding joins
returns-else-row-ne1 c = search (picks, rules)

pub returns-in-None : goal.returns-in-None
returns-in-None c = join_none c.args.list (seen c.args.row) c.in-None.is
