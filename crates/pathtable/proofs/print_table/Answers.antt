-- `pathtable::print_table` meets its contract. Assumes nothing.
use borrow.Author.Rules.{rules}
use Rattle.report.proofs.laws.Ends.{report_inside}
use Rattle.pathtable.proofs.print_table.Goals as goal

pub slice_bounds-text-end : goal.slice_bounds-text-end
slice_bounds-text-end g c = search (report_inside, rules)

pub slice_bounds-write_all-end : goal.slice_bounds-write_all-end
slice_bounds-write_all-end g c = search (report_inside, rules)
