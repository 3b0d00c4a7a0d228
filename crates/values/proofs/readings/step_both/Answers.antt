-- `values::readings::step_both` meets its contract. Assumes nothing.
use Rattle.std.proofs.Common.{rules}
use Rattle.values.proofs.Exits.{handed}
use Rattle.values.proofs.Settling.{both_absent, both_refused, both_step}
use Rattle.values.proofs.readings.step_both.Goals as goal

pub returns-then-ip-eq0-clause-reply : goal.returns-then-ip-eq0-clause-reply
returns-then-ip-eq0-clause-reply c = search (both_absent, rules)

pub returns-in_err-count-clause-reply : goal.returns-in_err-count-clause-reply
returns-in_err-count-clause-reply c =
    rw (handed _ c.from_residual.ensures.1, ← c.in_err-count.was)
    (both_refused c.args.ip.now c.args.ids.now c.args.table.now _ _ c.if-ip-eq0.false c.step_ip.ensures.reply _ c.in_err-count.was)

pub returns-clause-reply : goal.returns-clause-reply
returns-clause-reply c = both_step c.args.ip.now c.args.ids.now c.args.table.now _ _ c.if-ip-eq0.false c.step_ip.ensures.reply _ _ _ c.in_ok-count.was c.after_ip-2.ensures.reply
