-- `der::bits::padded` meets its contract. Assumes nothing.
use borrow.Author.Rules.{rules}
use Rattle.number.proofs.Spelling.{mul_fits, sum_fits}
use Rattle.der.proofs.Padding.{pad_turn, pad_done}
use Rattle.der.proofs.bits.padded.Goals as goal

pub overflow_mul-n : goal.overflow_mul-n
overflow_mul-n c = search (mul_fits, rules)

pub overflow_add-n : goal.overflow_add-n
overflow_add-n c = search (sum_fits, rules)

pub loop-k-preserved : goal.loop-k-preserved
loop-k-preserved c = search (pad_turn, rules)

pub returns : goal.returns
returns c = search (pad_done, rules)
