-- `values::readings::read_both` meets its contract. Assumes nothing.
use Rattle.std.proofs.Common.{rules}
use Rattle.values.proofs.Settling.{both_short, both_cleared}
use Rattle.values.proofs.readings.read_both.Goals as goal

pub returns-then-table-lt-NUMBERS-clause-reply : goal.returns-then-table-lt-NUMBERS-clause-reply
returns-then-table-lt-NUMBERS-clause-reply c = search (both_short, rules)

pub returns-clause-reply : goal.returns-clause-reply
returns-clause-reply c = search (both_cleared, rules)
