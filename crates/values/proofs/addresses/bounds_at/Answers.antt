-- `values::addresses::bounds_at` meets its contract. Assumes nothing.
use Rattle.std.proofs.Common.{rules}
use Rattle.number.specs.Halves.{bits}
use Rattle.values.specs.Addresses.{bits_at, bounds_of, range_at}
use Rattle.values.specs.Seen.{start_seen}
use Rattle.values.proofs.PairReads.{range_read}
use Rattle.values.proofs.addresses.bounds_at.Goals as goal

pub returns-clause-seen : goal.returns-clause-seen
unfolding range_at bounds_of
returns-clause-seen c = range_read start_seen (bits_at (bits c.args.width)) c.args.s.now c.pair_at.result c.pair_at.ensures.read (λ s r h. search rules)
