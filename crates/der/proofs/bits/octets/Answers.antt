-- `der::bits::octets` meets its contract. Assumes nothing.
use Rattle.std.proofs.Common.{rules}
use Rattle.der.specs.Bits.{bits_size}
use Rattle.der.proofs.bits.octets.Goals as goal

pub returns : goal.returns
unfolding bits_size
returns c = search rules
