use Rattle.table.specs.Spaces.{kind_number}
use Rattle.writer.proofs.Counting.{Counted}
use Rattle.writer.proofs.families.OneKind.size.Given as goal

abbrev pub invariant-loop-k : goal.invariant-loop-k
invariant-loop-k l = Counted (kind_number l.self.kind) l.self.table.now l.k l.list l.size
