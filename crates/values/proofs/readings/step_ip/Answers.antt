-- `values::readings::step_ip` meets its contract. Assumes nothing.
use Rattle.values.specs.Limits.{ip_extension}
use Rattle.values.specs.Blocks.{read_blocks}
use Rattle.values.specs.Tables.{blocks_rows, ip_rows}
use Rattle.values.specs.Readings.{step_ip}
use Rattle.values.proofs.Exits.{handed}
use Rattle.values.proofs.Settling.{step_refused, step_read}
use Rattle.values.proofs.readings.step_ip.Goals as goal

pub returns-in_err-admit-clause-reply : goal.returns-in_err-admit-clause-reply
unfolding step_ip
returns-in_err-admit-clause-reply c = rw (handed _ c.from_residual.ensures.1) (step_refused ip_extension c.args.value.now c.args.table.now _ _ _ _ _ c.admit.ensures c.in_err-admit.was)

pub returns-clause-reply : goal.returns-clause-reply
unfolding step_ip ip_rows
returns-clause-reply c =
    step_read ip_extension c.args.value.now c.args.table.now _ _ blocks_rows 0 (read_blocks c.args.value.now) _ _ _ c.admit.ensures c.in_ok-admit.was c.read-counted.ensures c.answer.ensures
