use lib.ListN.{length}
use Rattle.table.specs.Rows.{rows_all}
use Rattle.path.specs.Inherit.{in_space, up_to}
use Rattle.path.proofs.Putting.{Placing}
use Rattle.path.proofs.inherits.put_space.Given as goal

abbrev pub invariant-loop-k : goal.invariant-loop-k
invariant-loop-k l = Placing (up_to l.initial.own l.end (in_space l.space (rows_all l.issuer))) (length l.initial.own) l.issuer l.space l.own l.k l.w
