-- `writer::put_space` meets its contract. Assumes nothing.
use borrow.Author.Rules.{rules}
use Rattle.writer.proofs.Fronts.{space_octets_lem, space_put_two, space_put_three}
use Rattle.writer.proofs.put_space.Goals as goal

pub octet-afi-requires : goal.octet-afi-requires
octet-afi-requires c = (space_octets_lem _ c.requires.0).0

pub returns-then-space-eq0 : goal.returns-then-space-eq0
returns-then-space-eq0 c = search (space_put_two, rules)

pub octet-requires : goal.octet-requires
octet-requires c = (space_octets_lem _ c.requires.0).1

pub returns : goal.returns
returns c = search (space_put_three, rules)
