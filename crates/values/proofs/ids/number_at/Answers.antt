-- `values::ids::number_at` meets its contract. Assumes nothing.
use Rattle.values.proofs.Exits.{handed}
use Rattle.values.proofs.IdReads.{number_refused, number_took}
use Rattle.values.proofs.ids.number_at.Goals as goal

pub returns-in_err-x-clause-seen : goal.returns-in_err-x-clause-seen
returns-in_err-x-clause-seen g c =
    rw (handed _ c.from_residual.ensures.1) (number_refused c.args.s.now c.integer_at.ensures.seen c.integer_at.ensures.inside _ c.in_err-x.was).told

pub returns-clause-seen : goal.returns-clause-seen
returns-clause-seen g c = (number_took c.args.s.now c.integer_at.ensures.seen c.integer_at.ensures.inside g.row.SPACE _ _ c.in_ok-x.was c.row.ensures).ends.told
