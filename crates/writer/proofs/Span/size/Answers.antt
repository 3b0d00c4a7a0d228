-- `writer::Span::size` meets its contract. Assumes nothing.
use native.Mathlib.Omega.{arith}
use Rattle.writer.proofs.Sizing.{bits_few, two_few}
use Rattle.writer.proofs.Shaping.{as_prefix_lem, as_range_lem, range_two}
use Rattle.writer.proofs.Span.size.Goals as goal

pub element_size-requires : goal.element_size-requires
element_size-requires c = let p = as_prefix_lem c.args.self c.form.ensures _ c.in-Prefix.is in omega (arith, p.few)

pub element_size-requires-in-Range : goal.element_size-requires-in-Range
element_size-requires-in-Range c = let r = as_range_lem c.args.self c.form.ensures _ _ c.in-Range.is in omega (arith, r.few)

pub element_size-requires-in-Range-2 : goal.element_size-requires-in-Range-2
element_size-requires-in-Range-2 c = let r = as_range_lem c.args.self c.form.ensures _ _ c.in-Range.is in omega (arith, r.few_max)

pub overflow_add-element_size : goal.overflow_add-element_size
overflow_add-element_size c =
    let r = as_range_lem c.args.self c.form.ensures _ _ c.in-Range.is in
    let t = range_two r c.octets-in-Range.ensures c.octets-in-Range-2.ensures c.element_size-in-Range.ensures c.element_size-in-Range-2.ensures in
    omega (arith, t.few)

pub element_size-requires-in-Range-3 : goal.element_size-requires-in-Range-3
element_size-requires-in-Range-3 c =
    let r = as_range_lem c.args.self c.form.ensures _ _ c.in-Range.is in
    let t = range_two r c.octets-in-Range.ensures c.octets-in-Range-2.ensures c.element_size-in-Range.ensures c.element_size-in-Range-2.ensures in
    omega (arith, t.few)

pub returns-in-Prefix : goal.returns-in-Prefix
returns-in-Prefix c = let p = as_prefix_lem c.args.self c.form.ensures _ c.in-Prefix.is in rw p.is (bits_few c.args.self.width _ _ p.fits c.octets.ensures c.element_size.ensures)

pub returns-in-Range : goal.returns-in-Range
returns-in-Range c =
    let r = as_range_lem c.args.self c.form.ensures _ _ c.in-Range.is in
    let t = range_two r c.octets-in-Range.ensures c.octets-in-Range-2.ensures c.element_size-in-Range.ensures c.element_size-in-Range-2.ensures in
    rw r.is (two_few _ _ _ t c.element_size-in-Range-3.ensures)
