-- `writer::families::onward` meets its contract. Assumes nothing.
use borrow.Author.Rules.{rules}
use Rattle.number.proofs.Picks.{picks}
use Rattle.table.specs.Rows.{seen}
use Rattle.writer.specs.Families.{onward}
use Rattle.writer.proofs.Framing.{onward_same, onward_other, onward_alone}
use Rattle.writer.proofs.families.onward.Goals.{in-Some, in_default-2, in_default}
use Rattle.writer.proofs.families.onward.Goals as goal

pub returns-then-row-eq1 : goal.returns-then-row-eq1
unfolding onward
returns-then-row-eq1 c = search (picks, rules)

pub returns : goal.returns
returns c =
    elim c.match-list.branch [
      | in-Some w ↦ onward_same c.args.list (seen c.args.row) c.args.n w.in-Some.open w.in-Some.is c.if-row-eq1.false w.if-row-open.true w.behind-is
      | in_default-2 w ↦ onward_other c.args.list (seen c.args.row) c.args.n w.in-Some.open w.in-Some.is c.if-row-eq1.false w.if-row-open.false w.behind-is
      | in_default w ↦ onward_alone c.args.list (seen c.args.row) c.args.n w.in_default.is c.if-row-eq1.false w.behind-is
    ]
