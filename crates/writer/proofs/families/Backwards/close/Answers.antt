-- `writer::families::Backwards::close` meets its contract. Assumes nothing.
use borrow.Author.Rules.{rules}
use Rattle.table.specs.Spaces.{kind_number}
use Rattle.writer.proofs.Framing.{open_nothing, open_own, open_room, open_done}
use Rattle.writer.proofs.families.Backwards.close.Goals as goal

pub frame-requires : goal.frame-requires
frame-requires c =
    let k = open_own (kind_number c.args.kind) c.args.list c.in-Some.open c.requires.0 c.in-Some.is in
    (k.0, k.1, open_room (kind_number c.args.kind) c.args.list c.in-Some.open c.in-Some.is c.requires.1)

pub returns-in-Some-clause-written : goal.returns-in-Some-clause-written
returns-in-Some-clause-written c = search (open_done, rules)

pub returns-in_default-clause-written : goal.returns-in_default-clause-written
returns-in_default-clause-written c = open_nothing (kind_number c.args.kind) c.args.list c.args.self.now.out.now c.args.self.now.start c.in_default.is c.args.self.now.inside
