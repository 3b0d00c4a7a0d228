-- `values::choices::inherit_at` meets its contract. Assumes nothing.
use Rattle.std.proofs.Common.{rules}
use borrow.Author.Tests.{not-true}
use Rattle.values.specs.Faults.{at}
use Rattle.values.proofs.Exits.{handed}
use Rattle.values.proofs.Joins.{tag_order, tag_inside}
use Rattle.values.proofs.Choosing.{inherit_bad, inherit_contents, inherit_full, inherit_is}
use Rattle.values.proofs.choices.inherit_at.Goals as goal

pub returns-in_err-k-clause-rows : goal.returns-in_err-k-clause-rows
returns-in_err-k-clause-rows c = rw (handed (at 0 _) c.from_residual.ensures.1) (search (inherit_bad, rules))

pub slice_bounds-null-count : goal.slice_bounds-null-count
slice_bounds-null-count c = search (tag_order, rules)

pub slice_bounds-null-start : goal.slice_bounds-null-start
slice_bounds-null-start c = search (tag_order, rules)

pub slice_bounds-null-end : goal.slice_bounds-null-end
slice_bounds-null-end c = search (tag_inside, rules)

pub returns-then-not-null-clause-rows : goal.returns-then-not-null-clause-rows
returns-then-not-null-clause-rows c = rw c.from.ensures (search (inherit_contents, not-true, rules))

pub returns-in_err-push-clause-rows : goal.returns-in_err-push-clause-rows
returns-in_err-push-clause-rows c =
    rw (handed (at 0 _) c.from_residual-in_err-push.ensures.1) (inherit_full _ _ _ _ _ c.open.ensures _ _ c.in_ok-k.was _ c.null.ensures _ c.if-not-null.false c.inherit_row.ensures _ _ _ c.push.ensures.pushed _ c.in_err-push.was)

pub returns-clause-rows : goal.returns-clause-rows
returns-clause-rows c = inherit_is _ _ _ _ _ c.open.ensures _ _ c.in_ok-k.was _ c.null.ensures _ c.if-not-null.false c.inherit_row.ensures _ _ _ c.push.ensures.pushed _ c.in_ok-push.was
