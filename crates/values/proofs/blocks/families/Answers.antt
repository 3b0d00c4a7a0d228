-- `values::blocks::families` meets its contract. Assumes nothing.
use mathlib.Core.Path.{refl, ap}
use Rattle.std.proofs.Common.{rules}
use Rattle.std.specs.Prelude.{◌≡◌, Ok, Err}
use Rattle.std.specs.Prelude.{◌-◌, ◌+◌, length}
use Rattle.values.specs.Into.{family}
use Rattle.values.proofs.Exits.{handed, shifted, kept, all_fit}
use Rattle.values.proofs.Joins.{tag_order, tag_inside}
use Rattle.values.proofs.Filling.{counted_at}
use Rattle.values.proofs.FamilyLoop.{gather_start, gather_bad, gather_isnt, gather_turn, gather_end, head_fits, place_fits, gather_less}
use Rattle.values.proofs.blocks.families.Goals as goal

pub loop-rest-init : goal.loop-rest-init
loop-rest-init c = (refl, rw (c.new-rows.ensures.left, c.new-rows.ensures.counted) (search (gather_start, rules)))

pub returns-in-Err : goal.returns-in-Err
returns-in-Err c = rw c.at.ensures (counted_at _ _ _ _ _ _ _ _ (gather_bad _ _ _ _ _ _ c.loop-rest.invariant.1 c.loop-rest-test.true _ c.open.ensures _ c.in-Err.is) (search rules))

pub overflow_add-at : goal.overflow_add-at
overflow_add-at c =
    let o : c.open.result ≡ Ok (c.in-Ok.opening.0, c.in-Ok.opening.1) = c.in-Ok.is in
    search (head_fits, rules)

pub slice_bounds-family_of-count : goal.slice_bounds-family_of-count
slice_bounds-family_of-count c =
    let o : c.open.result ≡ Ok (c.in-Ok.opening.0, c.in-Ok.opening.1) = c.in-Ok.is in
    search (tag_order, rules)

pub slice_bounds-family_of-start : goal.slice_bounds-family_of-start
slice_bounds-family_of-start c =
    let o : c.open.result ≡ Ok (c.in-Ok.opening.0, c.in-Ok.opening.1) = c.in-Ok.is in
    search (tag_order, rules)

pub slice_bounds-family_of-end : goal.slice_bounds-family_of-end
slice_bounds-family_of-end c =
    let o : c.open.result ≡ Ok (c.in-Ok.opening.0, c.in-Ok.opening.1) = c.in-Ok.is in
    search (tag_inside, rules)

pub returns-in_err-space : goal.returns-in_err-space
returns-in_err-space c =
    let o : c.open.result ≡ Ok (c.in-Ok.opening.0, c.in-Ok.opening.1) = c.in-Ok.is in
    let q = all_fit _ c.family_of.result (λ f e. let u : family c.family_of.new.rows.count c.family_of.result ≡ Err f = ap (family c.family_of.new.rows.count) e in search (place_fits, rules)) in
    let p = shifted (length c.args.s.now - length c.loop-rest.rest.now + c.in-Ok.opening.0) c.family_of.result (c.in_err-space.ensures q) in
    let e : family c.family_of.new.rows.count c.family_of.result ≡ Err p.0 = ap (family c.family_of.new.rows.count) p.1 in
    rw (handed _ c.from_residual.ensures.1, p.2) (counted_at _ _ _ _ _ _ _ _ (gather_isnt _ _ _ _ _ _ c.loop-rest.invariant.1 c.loop-rest-test.true _ c.open.ensures _ _ o _ _ c.family_of.ensures.rows _ e) (search rules))

pub overflow_add-least : goal.overflow_add-least
overflow_add-least c =
    let o : c.open.result ≡ Ok (c.in-Ok.opening.0, c.in-Ok.opening.1) = c.in-Ok.is in
    let q = all_fit _ c.family_of.result (λ f e. let u : family c.family_of.new.rows.count c.family_of.result ≡ Err f = ap (family c.family_of.new.rows.count) e in search (place_fits, rules)) in
    let e : family c.family_of.new.rows.count c.family_of.result ≡ Ok (c.in_ok-space.space, c.family_of.new.rows.count) = ap (family c.family_of.new.rows.count) (kept (length c.args.s.now - length c.loop-rest.rest.now + c.in-Ok.opening.0) c.family_of.result (c.in_ok-space.ensures q)) in
    search rules

pub slice_bounds-rest-count : goal.slice_bounds-rest-count
slice_bounds-rest-count c =
    let o : c.open.result ≡ Ok (c.in-Ok.opening.0, c.in-Ok.opening.1) = c.in-Ok.is in
    search (tag_inside, rules)

pub slice_bounds-rest-start : goal.slice_bounds-rest-start
slice_bounds-rest-start c =
    let o : c.open.result ≡ Ok (c.in-Ok.opening.0, c.in-Ok.opening.1) = c.in-Ok.is in
    search (tag_inside, rules)

pub loop-rest-smaller : goal.loop-rest-smaller
loop-rest-smaller c =
    let o : c.open.result ≡ Ok (c.in-Ok.opening.0, c.in-Ok.opening.1) = c.in-Ok.is in
    search (gather_less, rules)

pub loop-rest-preserved : goal.loop-rest-preserved
loop-rest-preserved c =
    let o : c.open.result ≡ Ok (c.in-Ok.opening.0, c.in-Ok.opening.1) = c.in-Ok.is in
    let q = all_fit _ c.family_of.result (λ f e. let u : family c.family_of.new.rows.count c.family_of.result ≡ Err f = ap (family c.family_of.new.rows.count) e in search (place_fits, rules)) in
    let e : family c.family_of.new.rows.count c.family_of.result ≡ Ok (c.in_ok-space.space, c.family_of.new.rows.count) = ap (family c.family_of.new.rows.count) (kept (length c.args.s.now - length c.loop-rest.rest.now + c.in-Ok.opening.0) c.family_of.result (c.in_ok-space.ensures q)) in
    (search rules, search (gather_turn, rules))

pub returns : goal.returns
returns c = counted_at _ _ _ _ _ _ _ _ (gather_end _ _ _ _ _ _ c.loop-rest.invariant.1 c.loop-rest-test.false) (search rules)
