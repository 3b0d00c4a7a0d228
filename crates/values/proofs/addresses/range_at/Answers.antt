-- `values::addresses::range_at` meets its contract. Assumes nothing.
use Rattle.values.specs.Faults.{at}
use Rattle.values.proofs.Exits.{handed, no_other}
use Rattle.values.proofs.AddressReads.{range_refused, range_none, range_took}
use Rattle.values.proofs.addresses.range_at.Goals as goal

pub returns-in_err-min-clause-seen : goal.returns-in_err-min-clause-seen
returns-in_err-min-clause-seen c = rw (handed _ c.from_residual.ensures.1) (range_refused _ c.args.s.now c.width.ensures c.bounds_at.ensures.seen c.bounds_at.ensures.inside _ c.in_err-min.was).told

pub returns-in_err-row-clause-seen : goal.returns-in_err-row-clause-seen
returns-in_err-row-clause-seen c =
    rw (handed (at 0 _) c.from_residual-in_err-row.ensures.1, no_other c.in_err-row.ensures.value c.in_err-row.ensures.ok_part)
    (range_none _ c.args.s.now c.width.ensures c.bounds_at.ensures.seen c.bounds_at.ensures.inside _ _ c.in_ok-min.was c.range_row.ensures c.in_err-row.ensures.ok_part).told

pub returns-clause-seen : goal.returns-clause-seen
returns-clause-seen c = (range_took _ c.args.s.now c.width.ensures c.bounds_at.ensures.seen c.bounds_at.ensures.inside _ _ c.in_ok-min.was c.range_row.ensures _ c.in_ok-row.ensures.ok_part).ends.told
