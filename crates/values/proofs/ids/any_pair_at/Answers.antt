-- `values::ids::any_pair_at` meets its contract. Assumes nothing.
use Rattle.std.proofs.Common.{rules}
use Rattle.values.specs.Ids.{integer_at, pair_at, pair_of}
use Rattle.values.proofs.PairReads.{range_read}
use Rattle.values.proofs.ids.any_pair_at.Goals as goal

pub returns-clause-seen : goal.returns-clause-seen
unfolding pair_at pair_of
returns-clause-seen c = range_read (λ x. x) integer_at c.args.s.now c.pair_at.result c.pair_at.ensures.read (λ s r h. search rules)
