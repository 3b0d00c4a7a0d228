-- `values::identifiers::read` meets its contract. Assumes nothing.
use mathlib.Core.Path.{ap}
use Rattle.std.proofs.Common.{rules}
use Rattle.std.specs.Prelude.{◌≡◌, Ok, Err}
use Rattle.values.specs.Faults.{at}
use Rattle.values.specs.Into.{counted}
use Rattle.values.proofs.Exits.{handed, shifted, kept}
use Rattle.values.proofs.Joins.{tag_order, tag_inside}
use Rattle.values.proofs.MemberReads.{ids_bad, ids_none, ids_isnt, ids_over, ids_all}
use Rattle.values.proofs.identifiers.read.Goals as goal

pub returns-in_err-k : goal.returns-in_err-k
returns-in_err-k c = rw (handed (at 0 _) c.from_residual.ensures.1) (search (ids_bad, rules))

pub returns-then-k-end : goal.returns-then-k-end
returns-then-k-end c = rw c.from.ensures (search (ids_none, rules))

pub slice_bounds-members-count : goal.slice_bounds-members-count
slice_bounds-members-count c = search (tag_order, rules)

pub slice_bounds-members-start : goal.slice_bounds-members-start
slice_bounds-members-start c = search (tag_order, rules)

pub slice_bounds-members-end : goal.slice_bounds-members-end
slice_bounds-members-end c = search (tag_inside, rules)

pub returns-in_err-after : goal.returns-in_err-after
returns-in_err-after c =
    let p = shifted c.in_ok-k.k c.members.result (c.in_err-after.ensures (search rules)) in
    let e : counted c.members.new.rows.count c.members.result ≡ Err p.0 = ap (counted c.members.new.rows.count) p.1 in
    rw (handed _ c.from_residual-in_err-after.ensures.1, p.2) (search (ids_isnt, rules))

pub returns-then-end-value : goal.returns-then-end-value
returns-then-end-value c =
    let e : counted c.members.new.rows.count c.members.result ≡ Ok c.members.new.rows.count = ap (counted c.members.new.rows.count) (kept c.in_ok-k.k c.members.result (c.in_ok-after.ensures (search rules))) in
    rw c.at.ensures (search (ids_over, rules))

pub returns : goal.returns
returns c =
    let e : counted c.members.new.rows.count c.members.result ≡ Ok c.members.new.rows.count = ap (counted c.members.new.rows.count) (kept c.in_ok-k.k c.members.result (c.in_ok-after.ensures (search rules))) in
    search (ids_all, rules)
