-- The octets that were read lie in the room, and each read shortens what is left of it.
use Rattle.std.proofs.Common.{length, ◌≤◌, ◌-◌}
use Rattle.cases.proofs.fields.read_full.Given as goal

abbrev pub invariant-loop-done : goal.invariant-loop-done
invariant-loop-done g l = l.done ≤ length l.room

abbrev pub decreases-loop-done : goal.decreases-loop-done
decreases-loop-done g l = length l.room - l.done
