-- `values::ids::brief_number` meets its contract. Assumes nothing.
use Rattle.std.proofs.Common.{rules}
use borrow.Author.Tests.{not-false}
use Rattle.number.specs.Octets.{Octets}
use Rattle.values.proofs.BriefReads.{brief_second, brief_ten}
use Rattle.values.proofs.IdReads.{number_within, number_some, number_taken}
use Rattle.values.proofs.ids.brief_number.Goals as goal

pub bounds-s-1 : goal.bounds-s-1
bounds-s-1 c = search (brief_second, not-false, rules)

pub slice_bounds-spelled-end : goal.slice_bounds-spelled-end
slice_bounds-spelled-end c = search (brief_ten, not-false, rules)

pub overflow_sub-x : goal.overflow_sub-x
overflow_sub-x c = search (number_within, not-false, rules)

pub overflow_shr-x : goal.overflow_shr-x
overflow_shr-x c = search (number_some, not-false, rules)

pub returns : goal.returns
returns c = let o : Octets c.args.s.now = unfold Octets in (λ i. (c.type_inv.s i).fits) in search (number_taken, not-false, rules)
