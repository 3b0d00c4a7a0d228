-- `values::brief_addresses::brief_range` meets its contract. Assumes nothing.
use Rattle.values.proofs.BriefRows.{brief_last, both_span}
use Rattle.values.proofs.brief_addresses.brief_range.Goals as goal

pub placed_last-high-requires : goal.placed_last-high-requires
placed_last-high-requires c = brief_last c.in_ok-max.max c.in_ok-max.j c.args.width _ c.in_ok-max.ensures c.filled.ensures

pub returns : goal.returns
returns c =
    both_span c.in_ok-min.min c.in_ok-min.k c.in_ok-max.max c.in_ok-max.j c.args.width _ c.in_ok-min.ensures c.in_ok-max.ensures c.placed.ensures c.to_halves-low.ensures c.filled.ensures c.placed_last-high.ensures c.if-s-lt2.false c.if-s-ne-SEQUENCE.false c.from.ensures c.if-k-j.false
    (c.is_range.ensures c.if-not-is_range.false)
