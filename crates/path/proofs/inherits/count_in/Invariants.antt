use Rattle.table.specs.Rows.{room}
use Rattle.path.proofs.Counting.{Counting}
use Rattle.path.proofs.inherits.count_in.Given as goal

abbrev pub invariant-loop-k : goal.invariant-loop-k
invariant-loop-k l = Counting l.issuer (room l.issuer) l.space l.k l.n
