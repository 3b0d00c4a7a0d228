-- `values::brief_addresses::placed` meets its contract. Assumes nothing.
use Rattle.std.proofs.Common.{rules}
use Rattle.values.proofs.BitReads.{placed_is}
use Rattle.values.proofs.brief_addresses.placed.Goals as goal

pub returns : goal.returns
returns c = search (placed_is, rules)
