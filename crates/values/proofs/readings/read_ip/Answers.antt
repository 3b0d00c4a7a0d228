-- `values::readings::read_ip` meets its contract. Assumes nothing.
use Rattle.values.specs.Limits.{ip_extension}
use Rattle.values.specs.Readings.{step_ip, read_ip}
use Rattle.values.proofs.Exits.{handed}
use Rattle.values.proofs.Settling.{alone_refused, alone_step}
use Rattle.values.proofs.readings.read_ip.Goals as goal

pub returns-in_err-admit_alone : goal.returns-in_err-admit_alone
unfolding read_ip
returns-in_err-admit_alone c = rw (handed _ c.from_residual.ensures.1) (alone_refused ip_extension c.args.value.now c.args.table.now _ _ (step_ip c.args.value.now) _ c.admit_alone.ensures c.in_err-admit_alone.was)

pub returns : goal.returns
unfolding read_ip
returns c = alone_step ip_extension c.args.value.now c.args.table.now _ _ (step_ip c.args.value.now) _ c.admit_alone.ensures c.in_ok-admit_alone.was c.step_ip.ensures.reply
