-- `writer::families::Backwards::own` meets its contract. Assumes nothing.
use borrow.Author.Rules.{rules}
use Rattle.writer.proofs.Framing.{own_frame_room, own_frame_done, own_room, own_done}
use Rattle.writer.proofs.families.Backwards.own.Goals as goal

pub frame-requires : goal.frame-requires
frame-requires c = search (own_frame_room, rules)

pub listed-requires : goal.listed-requires
listed-requires c = search (own_room, rules)

pub returns-then-row-eq1-clause-written : goal.returns-then-row-eq1-clause-written
returns-then-row-eq1-clause-written c = search (own_frame_done, rules)

pub returns-else-row-eq1-clause-written : goal.returns-else-row-eq1-clause-written
returns-else-row-eq1-clause-written c = search (own_done, rules)
