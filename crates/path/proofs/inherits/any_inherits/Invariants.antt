use Rattle.table.specs.Rows.{rows_all}
use Rattle.path.specs.Inherit.{inherits}
use Rattle.path.proofs.Counting.{Asking}
use Rattle.path.proofs.inherits.any_inherits.Given as goal

abbrev pub invariant-loop-row : goal.invariant-loop-row
invariant-loop-row l = Asking (inherits (rows_all l.own)) l.row-iterator.rest.now l.row-iterator.size
