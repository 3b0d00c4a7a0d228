-- `values::pair_at` meets its contract. Assumes nothing.
use native.Mathlib.Omega.{arith}
use Rattle.std.proofs.Common.{rules}
use Rattle.der.specs.Tags.{SEQUENCE}
use Rattle.der.proofs.laws.Heads.{opens}
use Rattle.values.proofs.Exits.{handed, shifted}
use Rattle.values.proofs.Joins.{tag_order, tag_inside, tag_place}
use Rattle.values.proofs.pair_at.Goals as goal

pub slice_bounds-pair_of-count : goal.slice_bounds-pair_of-count
slice_bounds-pair_of-count g c = search (tag_order, rules)

pub slice_bounds-pair_of-start : goal.slice_bounds-pair_of-start
slice_bounds-pair_of-start g c = search (tag_order, rules)

pub slice_bounds-pair_of-end : goal.slice_bounds-pair_of-end
slice_bounds-pair_of-end g c = search (tag_inside, rules)

pub returns-in_err-pair-clause-inside : goal.returns-in_err-pair-clause-inside
returns-in_err-pair-clause-inside g c =
    let (f, p, q) = shifted c.in_ok-k.k c.pair_of.result (c.in_err-pair.ensures (search rules)) in
    rw (handed _ c.from_residual-in_err-pair.ensures.1, q)
    (tag_place SEQUENCE c.args.s.now c.open.ensures c.in_ok-k.k c.in_ok-k.end c.in_ok-k.was f.place (rw p at c.pair_of.ensures.inside))

pub returns-clause-inside : goal.returns-clause-inside
returns-clause-inside g c =
    let o = opens SEQUENCE c.args.s.now c.in_ok-k.k c.in_ok-k.end c.open.ensures c.in_ok-k.was in
    (omega (arith, o.start, o.order), o.inside)
