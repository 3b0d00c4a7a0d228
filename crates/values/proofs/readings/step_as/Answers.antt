-- `values::readings::step_as` meets its contract. Assumes nothing.
use Rattle.values.specs.Limits.{as_extension}
use Rattle.values.specs.Identifiers.{read_identifiers}
use Rattle.values.specs.Tables.{identifiers_rows, as_rows}
use Rattle.values.specs.Readings.{step_as}
use Rattle.values.proofs.Exits.{handed}
use Rattle.values.proofs.Settling.{step_refused, step_read}
use Rattle.values.proofs.readings.step_as.Goals as goal

pub returns-in_err-admit-clause-reply : goal.returns-in_err-admit-clause-reply
unfolding step_as
returns-in_err-admit-clause-reply c = rw (handed _ c.from_residual.ensures.1) (step_refused as_extension c.args.value.now c.args.table.now _ _ _ _ _ c.admit.ensures c.in_err-admit.was)

pub returns-clause-reply : goal.returns-clause-reply
unfolding step_as as_rows
returns-clause-reply c =
    step_read as_extension c.args.value.now c.args.table.now _ _ identifiers_rows c.args.count (read_identifiers c.args.count c.args.value.now) _ _ _ c.admit.ensures c.in_ok-admit.was c.read-counted.ensures c.answer.ensures
