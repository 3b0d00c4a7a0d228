-- `values::brief_addresses::brief_bits` meets its contract. Assumes nothing.
use Rattle.std.proofs.Common.{rules}
use borrow.Author.Tests.{not-false}
use Rattle.number.specs.Octets.{Octets}
use Rattle.values.proofs.BriefReads.{brief_long, brief_second, brief_third}
use Rattle.values.proofs.BitReads.{string_some, string_over, string_count, string_unit, string_divides, string_took}
use Rattle.values.proofs.brief_addresses.brief_bits.Goals as goal

pub bounds-s-2 : goal.bounds-s-2
bounds-s-2 c = search (brief_third, not-false, rules)

pub bounds-s-1 : goal.bounds-s-1
bounds-s-1 c = search (brief_second, not-false, rules)

pub overflow_sub-octets : goal.overflow_sub-octets
overflow_sub-octets c = search (string_some, not-false, rules)

pub bounds-s-2-2 : goal.bounds-s-2-2
bounds-s-2-2 c = search (brief_third, not-false, rules)

pub overflow_sub-count : goal.overflow_sub-count
overflow_sub-count c = search (string_over, not-false, rules)

pub slice_bounds-spelled-end : goal.slice_bounds-spelled-end
slice_bounds-spelled-end c = search (brief_long, not-false, rules)

pub overflow_sub-count-2 : goal.overflow_sub-count-2
overflow_sub-count-2 c = search (string_count, not-false, rules)

pub overflow_shl-count : goal.overflow_shl-count
overflow_shl-count c = search (string_unit, not-false, rules)

pub nonzero_rem-bits : goal.nonzero_rem-bits
nonzero_rem-bits c = search (string_divides, not-false, rules)

pub returns : goal.returns
returns c = let o : Octets c.args.s.now = unfold Octets in (λ i. (c.type_inv.s i).fits) in search (string_took, not-false, rules)
