-- `number::address::octet` meets its contract. Assumes nothing.
use Rattle.std.proofs.Common.{rules}
use Rattle.number.proofs.Sixteen.{octet_lower, octet_upper}
use Rattle.number.proofs.address.octet.Goals as goal

pub returns-then-shift-lt64 : goal.returns-then-shift-lt64
returns-then-shift-lt64 c = search (octet_lower, rules)

pub returns : goal.returns
returns c = search (octet_upper, rules)
