-- `values::ids::integer_at` meets its contract. Assumes nothing.
use Rattle.std.proofs.Common.{rules}
use Rattle.values.proofs.IdReads.{brief_or}
use Rattle.values.proofs.ids.integer_at.Goals as goal

pub returns-clause-seen : goal.returns-clause-seen
returns-clause-seen c = brief_or c.args.s.now _ c.brief_number.result c.brief_number.ensures (λ n. search rules) c.map_or_else.ensures
