use lib.ListN.{length}
use Rattle.std.proofs.Common.{◌≡◌}
use Rattle.values.proofs.Listing.{Reading}
use Rattle.values.proofs.elements.list.Given as goal

abbrev pub invariant-loop-rest : goal.invariant-loop-rest
invariant-loop-rest l = (l.listed.table.ghost_name ≡ l.initial.listed.table.ghost_name) × Reading l.space l.s l.fn.rows.count l.fn.rows.table.now l.listed.table.now l.rest l.listed.count l.last

abbrev pub decreases-loop-rest : goal.decreases-loop-rest
decreases-loop-rest l = length l.rest
