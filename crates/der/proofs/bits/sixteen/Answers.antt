-- `der::bits::sixteen` meets its contract. Assumes nothing.
use Rattle.der.proofs.Padding.{two_halves}
use Rattle.der.proofs.bits.sixteen.Goals as goal

pub returns : goal.returns
returns c = two_halves c.args.s.now (λ k. (c.type_inv.s k).fits) {a = c.from_halves-address.result} c.upper.ensures c.lower.ensures c.from_halves-address.ensures
