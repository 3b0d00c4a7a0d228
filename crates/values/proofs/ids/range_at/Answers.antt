-- `values::ids::range_at` meets its contract. Assumes nothing.
use Rattle.values.specs.Faults.{at}
use Rattle.values.proofs.Exits.{handed, no_other}
use Rattle.values.proofs.IdReads.{span_refused, span_none, span_took}
use Rattle.values.proofs.ids.range_at.Goals as goal

pub returns-in_err-min-clause-seen : goal.returns-in_err-min-clause-seen
returns-in_err-min-clause-seen g c =
    rw (handed _ c.from_residual.ensures.1) (span_refused c.args.s.now c.pair_at.ensures.seen c.pair_at.ensures.inside _ c.in_err-min.was).told

pub returns-in_err-row-clause-seen : goal.returns-in_err-row-clause-seen
returns-in_err-row-clause-seen g c =
    rw (handed (at 0 _) c.from_residual-in_err-row.ensures.1, no_other c.in_err-row.ensures.value c.in_err-row.ensures.ok_part)
    (span_none c.args.s.now c.pair_at.ensures.seen c.pair_at.ensures.inside g.row.SPACE _ _ _ c.in_ok-min.was c.range.ensures c.in_err-row.ensures.ok_part).told

pub returns-clause-seen : goal.returns-clause-seen
returns-clause-seen g c = (span_took c.args.s.now c.pair_at.ensures.seen c.pair_at.ensures.inside g.row.SPACE _ _ _ c.in_ok-min.was c.range.ensures _ c.in_ok-row.ensures.ok_part).ends.told
