-- `writer::Group::heads_size` meets its contract. Assumes nothing.
use native.Mathlib.Omega.{arith}
use Rattle.der.proofs.laws.Heads.{head_few}
use Rattle.writer.proofs.Fronts.{family_size, member_size}
use Rattle.table.proofs.laws.Papers.{ip_number, as_number}
use Rattle.writer.proofs.Group.heads_size.Goals as goal

pub overflow_add-first : goal.overflow_add-first
overflow_add-first c = omega (arith, head_few c.space_size.result)

pub overflow_add-result : goal.overflow_add-result
overflow_add-result c = let f = family_size _ _ _ (ip_number c.in-Ip.is) c.space_size.ensures.0 c.space_size.ensures.1 c.element_size-first.ensures c.head_size.ensures in omega (arith, f.1)

pub returns-in-Ip : goal.returns-in-Ip
returns-in-Ip c = family_size _ _ _ (ip_number c.in-Ip.is) c.space_size.ensures.0 c.space_size.ensures.1 c.element_size-first.ensures c.head_size.ensures

pub returns-in-As : goal.returns-in-As
returns-in-As c = member_size _ _ _ (as_number c.in-As.is) c.head_size-in-As.ensures
