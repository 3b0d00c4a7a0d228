-- `writer::Span::put` meets its contract. Assumes nothing.
use Rattle.writer.proofs.Shaping.{as_prefix_lem, as_range_lem, prefix_is, range_below, range_is}
use Rattle.writer.proofs.Span.put.Goals as goal

pub low_bits-requires : goal.low_bits-requires
low_bits-requires c = let p = as_prefix_lem c.args.self c.form.ensures _ c.in-Prefix.is in p.fits

pub put-requires : goal.put-requires
put-requires c = let p = as_prefix_lem c.args.self c.form.ensures _ c.in-Prefix.is in rw (prefix_is c.low_bits.result p c.low_bits.ensures) at c.requires

pub low_bits-requires-in-Range : goal.low_bits-requires-in-Range
low_bits-requires-in-Range c = let r = as_range_lem c.args.self c.form.ensures _ _ c.in-Range.is in r.fits

pub invariant_of-max : goal.invariant_of-max
invariant_of-max c =
    let r = as_range_lem c.args.self c.form.ensures _ _ c.in-Range.is in
    record { kept = r.fits_max; fits = range_below c.zero_filled.result r c.zero_filled.ensures }

pub put_range-requires : goal.put_range-requires
put_range-requires c =
    let r = as_range_lem c.args.self c.form.ensures _ _ c.in-Range.is in
    rw (range_is c.zero_filled.result r c.zero_filled.ensures c.low_bits-in-Range.result c.low_bits-in-Range.ensures) at c.requires

pub returns-in-Prefix : goal.returns-in-Prefix
returns-in-Prefix c = let p = as_prefix_lem c.args.self c.form.ensures _ c.in-Prefix.is in rw (prefix_is c.low_bits.result p c.low_bits.ensures) c.put.ensures

pub returns-in-Range : goal.returns-in-Range
returns-in-Range c =
    let r = as_range_lem c.args.self c.form.ensures _ _ c.in-Range.is in
    rw (range_is c.zero_filled.result r c.zero_filled.ensures c.low_bits-in-Range.result c.low_bits-in-Range.ensures) c.put_range.ensures
