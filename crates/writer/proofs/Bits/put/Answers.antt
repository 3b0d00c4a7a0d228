-- `writer::Bits::put` meets its contract. Assumes nothing.
use borrow.Author.Rules.{rules}
use native.Mathlib.Omega.{arith}
use Rattle.der.proofs.laws.Heads.{head_few}
use Rattle.writer.proofs.Pieces.{bits_put}
use Rattle.writer.proofs.Bits.put.Goals as goal

pub overflow_add-at : goal.overflow_add-at
overflow_add-at c = omega (arith, head_few c.octets-size.result)

pub returns : goal.returns
returns c = search (bits_put, rules)
