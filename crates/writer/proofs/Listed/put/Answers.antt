-- `writer::Listed::put` meets its contract. Assumes nothing.
use Rattle.writer.proofs.Listing.{ip_row, as_row}
use Rattle.table.proofs.laws.Papers.{ip_number, as_number}
use Rattle.writer.proofs.Listed.put.Goals as goal

pub put-requires : goal.put-requires
put-requires c = rw (ip_row _ c.args.self.row (ip_number c.in-Ip.is) c.of.ensures) at c.requires

pub returns-in-Ip : goal.returns-in-Ip
returns-in-Ip c = rw (ip_row _ c.args.self.row (ip_number c.in-Ip.is) c.of.ensures) c.put.ensures

pub put-requires-in-As : goal.put-requires-in-As
put-requires-in-As c = rw (as_row _ c.args.self.row (as_number c.in-As.is) c.of-in-As.ensures) at c.requires

pub returns-in-As : goal.returns-in-As
returns-in-As c = rw (as_row _ c.args.self.row (as_number c.in-As.is) c.of-in-As.ensures) c.put-in-As.ensures
