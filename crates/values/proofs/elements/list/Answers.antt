-- `values::elements::list` meets its contract. Assumes nothing.
use mathlib.Core.Path.{refl}
use Rattle.std.proofs.Common.{rules}
use Rattle.std.specs.Prelude.{◌≡◌, Ok, Err}
use Rattle.std.specs.Prelude.{◌-◌, length}
use Rattle.values.proofs.Exits.{handed, shifted, kept}
use Rattle.values.proofs.Filling.{counted_at}
use Rattle.values.proofs.Listing.{reading_start, reading_bad, reading_early, reading_full, reading_turn, reading_end}
use Rattle.values.proofs.elements.list.Goals as goal

pub loop-rest-init : goal.loop-rest-init
loop-rest-init c = (refl, rw (c.new-listed.ensures.left, c.new-listed.ensures.counted) (search (reading_start, rules)))

pub returns-in_err-row-clause-rows : goal.returns-in_err-row-clause-rows
returns-in_err-row-clause-rows c =
    let p = shifted (length c.args.s.now - length c.loop-rest.rest.now) c.element.result (c.in_err-row.ensures (search rules)) in
    let e : c.element.result ≡ Err p.0 = p.1 in
    rw (handed _ c.from_residual.ensures.1, p.2)
    (counted_at _ _ _ _ _ _ _ _ (reading_bad c.loop-rest.invariant.1 _ c.loop-rest-test.true c.element.ensures.seen c.element.ensures.inside _ e) (search rules))

pub returns-then-early-clause-rows : goal.returns-then-early-clause-rows
returns-then-early-clause-rows c =
    let e : c.element.result ≡ Ok _ = kept (length c.args.s.now - length c.loop-rest.rest.now) c.element.result (c.in_ok-row.ensures (search rules)) in
    rw c.at.ensures
    (counted_at _ _ _ _ _ _ _ _ (reading_early c.loop-rest.invariant.1 _ c.loop-rest-test.true c.element.ensures.seen c.element.ensures.inside _ _ e _ c.early.ensures c.if-early.true) (search rules))

pub returns-in-Err-clause-rows : goal.returns-in-Err-clause-rows
returns-in-Err-clause-rows c =
    let e : c.element.result ≡ Ok _ = kept (length c.args.s.now - length c.loop-rest.rest.now) c.element.result (c.in_ok-row.ensures (search rules)) in
    rw c.at-in-Err.ensures
    (counted_at _ _ _ _ _ _ _ _
    (reading_full c.loop-rest.invariant.1 _ c.loop-rest-test.true c.element.ensures.seen c.element.ensures.inside _ _ e _ c.early.ensures c.if-early.false _ _ _ c.push.ensures.pushed _ c.in-Err.is)
    (search rules))

pub loop-rest-preserved : goal.loop-rest-preserved
loop-rest-preserved c =
    let e : c.element.result ≡ Ok _ = kept (length c.args.s.now - length c.loop-rest.rest.now) c.element.result (c.in_ok-row.ensures (search rules)) in
    (search rules, reading_turn c.loop-rest.invariant.1 _ c.loop-rest-test.true c.element.ensures.seen c.element.ensures.inside _ _ e _ c.early.ensures c.if-early.false _ _ _ c.push.ensures.pushed _ c.in_default.is)

pub returns-clause-rows : goal.returns-clause-rows
returns-clause-rows c = counted_at _ _ _ _ _ _ _ _ (reading_end c.loop-rest.invariant.1 c.loop-rest-test.false) (search rules)
