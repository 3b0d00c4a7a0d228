-- `values::readings::read_as` meets its contract. Assumes nothing.
use Rattle.values.specs.Limits.{as_extension}
use Rattle.values.specs.Readings.{step_as, read_as}
use Rattle.values.proofs.Exits.{handed}
use Rattle.values.proofs.Settling.{alone_refused, alone_step}
use Rattle.values.proofs.readings.read_as.Goals as goal

pub returns-in_err-admit_alone : goal.returns-in_err-admit_alone
unfolding read_as
returns-in_err-admit_alone c = rw (handed _ c.from_residual.ensures.1) (alone_refused as_extension c.args.value.now c.args.table.now _ _ (step_as c.args.value.now 0) _ c.admit_alone.ensures c.in_err-admit_alone.was)

pub returns : goal.returns
unfolding read_as
returns c = alone_step as_extension c.args.value.now c.args.table.now _ _ (step_as c.args.value.now 0) _ c.admit_alone.ensures c.in_ok-admit_alone.was c.step_as.ensures.reply
