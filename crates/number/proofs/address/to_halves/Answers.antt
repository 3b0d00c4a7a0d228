-- `number::address::to_halves` meets its contract. Assumes nothing.
use borrow.Author.Rules.{rules}
use Rattle.number.proofs.Spelling.{array_octets, narrow, broad}
use Rattle.number.proofs.address.to_halves.Goals as goal

pub returns-in-Bits32 : goal.returns-in-Bits32
returns-in-Bits32 c = let o = array_octets c.args.a.octets _ c.well_formed.0.1.1.1.0.1.1 in search (narrow, rules)

pub returns-in-Bits128 : goal.returns-in-Bits128
returns-in-Bits128 c = search (broad, rules)
