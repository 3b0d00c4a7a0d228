use Prim.Native.Nat.{◌+◌}
use lib.ListN.{length}
use Rattle.table.specs.Rows.{rows_in}
use Rattle.path.specs.Walk.{walk}
use Rattle.path.proofs.Walking.{Walking}
use Rattle.path.proofs.walks.walk.Given as goal

abbrev pub invariant-loop-left : goal.invariant-loop-left
invariant-loop-left l = Walking (walk (rows_in l.n l.own) (rows_in l.m l.issuer)) l.left l.held l.pairs

abbrev pub decreases-loop-left : goal.decreases-loop-left
decreases-loop-left l = length l.left + length l.held
