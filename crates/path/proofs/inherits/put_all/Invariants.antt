use lib.ListN.{length}
use Rattle.table.specs.Rows.{rows_of, with_rows, rows_all}
use Rattle.path.specs.Inherit.{resolved}
use Rattle.path.proofs.Putting.{Resolving}
use Rattle.path.proofs.inherits.put_all.Given as goal

abbrev pub invariant-loop-k : goal.invariant-loop-k
invariant-loop-k l = Resolving (with_rows l.initial.own 0 (resolved (rows_all l.issuer) (rows_of l.n l.initial.own))) (length l.initial.own) (rows_all l.issuer) l.own l.k l.w
