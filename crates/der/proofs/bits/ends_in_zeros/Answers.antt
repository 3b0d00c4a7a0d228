-- `der::bits::ends_in_zeros` meets its contract. Assumes nothing.
use Rattle.std.proofs.Common.{rules}
use Rattle.der.proofs.Beginnings.{last_zeros}
use Rattle.der.proofs.bits.ends_in_zeros.Goals as goal

pub returns-else-octets-eq0 : goal.returns-else-octets-eq0
returns-else-octets-eq0 c = search (last_zeros, rules)
