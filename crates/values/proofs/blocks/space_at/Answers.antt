-- `values::blocks::space_at` meets its contract. Assumes nothing.
use Rattle.std.proofs.Common.{rules}
use Rattle.values.specs.Faults.{at}
use Rattle.values.proofs.Exits.{handed}
use Rattle.values.proofs.Joins.{tag_order, tag_inside}
use Rattle.values.proofs.Spacing.{opening_refused, contents_refused, order_refused, space_found}
use Rattle.values.proofs.blocks.space_at.Goals as goal

pub returns-in_err-k-clause-seen : goal.returns-in_err-k-clause-seen
returns-in_err-k-clause-seen c = rw (handed (at 0 _) c.from_residual.ensures.1) (opening_refused c.args.least c.args.s.now _ c.open.ensures _ c.in_err-k.was).told

pub slice_bounds-space_of-count : goal.slice_bounds-space_of-count
slice_bounds-space_of-count c = search (tag_order, rules)

pub slice_bounds-space_of-start : goal.slice_bounds-space_of-start
slice_bounds-space_of-start c = search (tag_order, rules)

pub slice_bounds-space_of-end : goal.slice_bounds-space_of-end
slice_bounds-space_of-end c = search (tag_inside, rules)

pub returns-in_err-space-clause-seen : goal.returns-in_err-space-clause-seen
returns-in_err-space-clause-seen c =
    rw (handed (at 0 _) c.from_residual-in_err-space.ensures.1) (contents_refused c.args.least c.args.s.now _ c.open.ensures _ _ c.in_ok-k.was _ _ c.in_err-space.was c.space_of.ensures).told

pub returns-then-space-least-clause-seen : goal.returns-then-space-least-clause-seen
returns-then-space-least-clause-seen c =
    rw c.from.ensures (order_refused c.args.least c.args.s.now _ c.open.ensures _ _ c.in_ok-k.was _ _ c.in_ok-space.was c.space_of.ensures c.if-space-least.true).told

pub returns-clause-seen : goal.returns-clause-seen
returns-clause-seen c = (space_found c.args.least c.args.s.now _ c.open.ensures _ _ c.in_ok-k.was _ _ c.in_ok-space.was c.space_of.ensures c.if-space-least.false (λ i. (c.type_inv.s i).fits)).0

pub returns-clause-inside : goal.returns-clause-inside
returns-clause-inside c = (space_found c.args.least c.args.s.now _ c.open.ensures _ _ c.in_ok-k.was _ _ c.in_ok-space.was c.space_of.ensures c.if-space-least.false (λ i. (c.type_inv.s i).fits)).1
