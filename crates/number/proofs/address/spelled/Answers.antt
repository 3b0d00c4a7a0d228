-- `number::address::spelled` meets its contract. Assumes nothing.
use borrow.Author.Rules.{rules}
use Rattle.number.proofs.Spelling.{mul_fits, turn}
use Rattle.number.proofs.address.spelled.Goals as goal

pub overflow_mul-n : goal.overflow_mul-n
overflow_mul-n c = search (mul_fits, rules)

pub loop-octet-preserved : goal.loop-octet-preserved
loop-octet-preserved c = turn c.loop-octet.invariant (search rules) _ (search rules) (search rules) (search rules)
