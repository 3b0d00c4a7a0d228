-- `writer::element_size` meets its contract. Assumes nothing.
use native.Mathlib.Omega.{arith}
use Rattle.der.proofs.laws.Heads.{head_few}
use Rattle.writer.proofs.element_size.Goals as goal

pub overflow_add-result : goal.overflow_add-result
overflow_add-result c = omega (arith, head_few c.args.n)
