use Rattle.std.proofs.Common.{◌≡◌}
use Rattle.table.specs.Spaces.{kind_number}
use Rattle.writer.proofs.Placing.{Placed}
use Rattle.writer.proofs.families.Backwards.families.Given as goal

abbrev pub invariant-loop-k : goal.invariant-loop-k
invariant-loop-k l = (l.self.out.ghost_name ≡ l.initial.self.out.ghost_name) × Placed (kind_number l.one.kind) l.one.table.now l.initial.self.out.now l.initial.self.start l.k l.list l.self.start l.self.out.now
