-- `values::brief_addresses::brief_prefix` meets its contract. Assumes nothing.
use Rattle.values.proofs.BriefRows.{brief_last, prefix_span}
use Rattle.values.proofs.brief_addresses.brief_prefix.Goals as goal

pub placed_last-high-requires : goal.placed_last-high-requires
placed_last-high-requires c = brief_last c.in_ok-prefix.prefix c.in_ok-prefix.end c.args.width _ c.in_ok-prefix.ensures c.filled.ensures

pub returns : goal.returns
returns c =
    prefix_span c.in_ok-prefix.prefix c.in_ok-prefix.end c.args.width _ c.in_ok-prefix.ensures c.filled.ensures c.placed.ensures c.to_halves-low.ensures c.placed_last-high.ensures
