-- `table::spaces::kind` meets its contract. Assumes nothing.
use native.Mathlib.Omega.{arith}
use Rattle.std.proofs.lemmas.Grind.{common_steps}
use Rattle.table.specs.Spaces.{kind_of}
use Rattle.table.proofs.spaces.kind.Goals as goal

pub returns-then-between-2 : goal.returns-then-between-2
unfolding kind_of
returns-then-between-2 c = grind (arith, common_steps)

pub returns-then-space-eq-ROUTING_DOMAINS : goal.returns-then-space-eq-ROUTING_DOMAINS
unfolding kind_of
returns-then-space-eq-ROUTING_DOMAINS c = grind (arith, common_steps)

pub returns-else-space-eq-ROUTING_DOMAINS : goal.returns-else-space-eq-ROUTING_DOMAINS
unfolding kind_of
returns-else-space-eq-ROUTING_DOMAINS c = grind (arith, common_steps)
