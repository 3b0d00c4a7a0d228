-- `values::ids::any_integer_at` meets its contract. Assumes nothing.
use Rattle.std.proofs.Common.{rules}
use Rattle.values.specs.Faults.{at}
use Rattle.values.proofs.Exits.{handed}
use Rattle.values.proofs.Joins.{tag_order, tag_inside}
use Rattle.values.proofs.IdReads.{integer_refused, integer_isnt, integer_took}
use Rattle.values.proofs.ids.any_integer_at.Goals as goal

pub returns-in_err-k-clause-seen : goal.returns-in_err-k-clause-seen
returns-in_err-k-clause-seen c = rw (handed (at 0 _) c.from_residual.ensures.1) (integer_refused c.args.s.now c.open.ensures _ c.in_err-k.was).told

pub slice_bounds-read-count : goal.slice_bounds-read-count
slice_bounds-read-count c = search (tag_order, rules)

pub slice_bounds-read-start : goal.slice_bounds-read-start
slice_bounds-read-start c = search (tag_order, rules)

pub slice_bounds-read-end : goal.slice_bounds-read-end
slice_bounds-read-end c = search (tag_inside, rules)

pub returns-in_err-x-clause-seen : goal.returns-in_err-x-clause-seen
returns-in_err-x-clause-seen c =
    rw (handed (at 0 _) c.from_residual-in_err-x.ensures.1) (integer_isnt c.args.s.now c.open.ensures _ _ c.in_ok-k.was c.read.ensures _ c.in_err-x.was).told

pub returns-clause-seen : goal.returns-clause-seen
returns-clause-seen c = (integer_took c.args.s.now c.open.ensures _ _ c.in_ok-k.was c.read.ensures _ c.in_ok-x.was).told

pub returns-clause-inside : goal.returns-clause-inside
returns-clause-inside c =
    let t = integer_took c.args.s.now c.open.ensures _ _ c.in_ok-k.was c.read.ensures _ c.in_ok-x.was in
    (t.some, t.inside)
