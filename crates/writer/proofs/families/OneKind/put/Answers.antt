-- `writer::families::OneKind::put` meets its contract. Assumes nothing.
use borrow.Author.Rules.{rules}
use Rattle.table.specs.Spaces.{kind_number}
use Rattle.writer.proofs.Replies.{value_short, value_done}
use Rattle.writer.proofs.families.OneKind.put.Goals as goal

pub returns-then-out-all : goal.returns-then-out-all
returns-then-out-all c = search (value_short, rules)

pub returns : goal.returns
returns c =
    let e = value_done (kind_number c.args.self.kind) c.args.self.table.now c.args.out.now c.size-inner.ensures.0 c.element_size-all.ensures c.families.new.self.start c.if-out-all.false c.size-inner.ensures.1 c.put_head.ensures c.families.ensures.written in
    search rules
