-- `writer::Listed::size` meets its contract. Assumes nothing.
use Rattle.writer.proofs.Listing.{ip_row, as_row}
use Rattle.table.proofs.laws.Papers.{ip_number, as_number}
use Rattle.writer.proofs.Listed.size.Goals as goal

pub returns-in-Ip : goal.returns-in-Ip
returns-in-Ip c = rw (ip_row _ c.args.self.row (ip_number c.in-Ip.is) c.of.ensures) c.size.ensures

pub returns-in-As : goal.returns-in-As
returns-in-As c = rw (as_row _ c.args.self.row (as_number c.in-As.is) c.of-in-As.ensures) c.size-in-As.ensures
