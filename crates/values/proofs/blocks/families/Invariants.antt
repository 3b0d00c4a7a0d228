use lib.ListN.{length}
use Rattle.std.proofs.Common.{◌≡◌}
use Rattle.values.proofs.FamilyLoop.{Gathering}
use Rattle.values.proofs.blocks.families.Given as goal

abbrev pub invariant-loop-rest : goal.invariant-loop-rest
invariant-loop-rest l = (l.rows.table.ghost_name ≡ l.initial.rows.table.ghost_name) × Gathering l.s l.fn.table l.rows.table.now l.rest l.least l.rows.count

abbrev pub decreases-loop-rest : goal.decreases-loop-rest
decreases-loop-rest l = length l.rest
