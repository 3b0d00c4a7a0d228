-- `writer::families::frame_size` meets its contract. Assumes nothing.
use borrow.Author.Rules.{rules}
use native.Mathlib.Omega.{arith}
use Rattle.der.proofs.laws.Heads.{head_few}
use Rattle.writer.proofs.Framing.{size_few, frame_sum, frame_sum_few}
use Rattle.writer.proofs.families.frame_size.Goals as goal

pub invariant_of-group : goal.invariant_of-group
invariant_of-group c = record { few = size_few _ c.element_size.ensures c.requires }

pub overflow_add-result : goal.overflow_add-result
overflow_add-result c = omega (arith, head_few c.args.n)

pub returns : goal.returns
returns c = search (frame_sum, frame_sum_few, rules)
