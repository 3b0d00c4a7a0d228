-- `writer::families::Backwards::frame` meets its contract. Assumes nothing.
use borrow.Author.Rules.{rules}
use Rattle.writer.proofs.Framing.{size_few, frame_last, frame_first, frame_room, frame_done}
use Rattle.writer.proofs.families.Backwards.frame.Goals as goal

pub overflow_sub-self : goal.overflow_sub-self
overflow_sub-self c = search (frame_last, rules)

pub invariant_of-group : goal.invariant_of-group
invariant_of-group c = record { few = size_few _ c.element_size.ensures c.requires.1 }

pub overflow_sub-self-2 : goal.overflow_sub-self-2
overflow_sub-self-2 c = search (frame_first, rules)

pub put_heads-requires : goal.put_heads-requires
put_heads-requires c = (search rules, search (frame_room, rules))

pub returns-clause-written : goal.returns-clause-written
returns-clause-written c = search (frame_done, rules)
