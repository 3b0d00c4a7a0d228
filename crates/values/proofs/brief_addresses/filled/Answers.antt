-- `values::brief_addresses::filled` meets its contract. Assumes nothing.
use Rattle.std.proofs.Common.{rules}
use Rattle.values.proofs.BriefSpans.{filled_fits}
use Rattle.values.proofs.brief_addresses.filled.Goals as goal

pub overflow_add-result : goal.overflow_add-result
overflow_add-result c = search (filled_fits, rules)
