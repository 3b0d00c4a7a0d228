-- `values::addresses::prefix_at` meets its contract. Assumes nothing.
use Rattle.values.proofs.Exits.{handed}
use Rattle.values.proofs.AddressReads.{prefix_refused, prefix_took}
use Rattle.values.proofs.addresses.prefix_at.Goals as goal

pub returns-in_err-prefix-clause-seen : goal.returns-in_err-prefix-clause-seen
returns-in_err-prefix-clause-seen c = rw (handed _ c.from_residual.ensures.1) (prefix_refused _ c.args.s.now c.width.ensures c.bits_at.ensures.seen c.bits_at.ensures.inside _ c.in_err-prefix.was).told

pub returns-clause-seen : goal.returns-clause-seen
returns-clause-seen c = (prefix_took _ c.args.s.now c.width.ensures c.bits_at.ensures.seen c.bits_at.ensures.inside _ _ c.in_ok-prefix.was c.prefix_row.ensures).ends.told
