-- `vectors::Lent::next` meets its contract. Assumes nothing.
use borrow.Author.Rules.{rules}
use Rattle.report.proofs.laws.Ends.{report_inside}
use Rattle.vectors.proofs.Lent.next.Goals as goal

pub shared_ref_as_front-write_all : goal.shared_ref_as_front-write_all
shared_ref_as_front-write_all g c = search (report_inside, rules)
