-- `values::identifiers::member` meets its contract. Assumes nothing.
use mathlib.Core.Path.{ap}
use Rattle.std.proofs.Common.{rules}
use Rattle.std.specs.Prelude.{◌≡◌, Ok, Err}
use Rattle.values.specs.Faults.{at}
use Rattle.values.specs.Into.{chosen}
use Rattle.values.proofs.Exits.{handed, shifted, kept}
use Rattle.values.proofs.Joins.{tag_order, tag_inside}
use Rattle.values.proofs.MemberReads.{member_bad, member_isnt, member_over, member_all}
use Rattle.values.proofs.identifiers.member.Goals as goal

pub returns-in_err-k-clause-rows : goal.returns-in_err-k-clause-rows
returns-in_err-k-clause-rows c = rw (handed (at 0 _) c.from_residual.ensures.1) (search (member_bad, rules))

pub slice_bounds-inner-count : goal.slice_bounds-inner-count
slice_bounds-inner-count c = search (tag_order, rules)

pub slice_bounds-inner-start : goal.slice_bounds-inner-start
slice_bounds-inner-start c = search (tag_order, rules)

pub slice_bounds-inner-end : goal.slice_bounds-inner-end
slice_bounds-inner-end c = search (tag_inside, rules)

pub returns-in_err-j-clause-rows : goal.returns-in_err-j-clause-rows
returns-in_err-j-clause-rows c =
    let p = shifted c.in_ok-k.k c.read.result (c.in_err-j.ensures (search rules)) in
    let e : chosen c.read.new.rows.count c.read.result ≡ Err p.0 = ap (chosen c.read.new.rows.count) p.1 in
    rw (handed _ c.from_residual-in_err-j.ensures.1, p.2) (search (member_isnt, rules))

pub returns-then-j-inner-clause-rows : goal.returns-then-j-inner-clause-rows
returns-then-j-inner-clause-rows c =
    let e : chosen c.read.new.rows.count c.read.result ≡ Ok (c.read.new.rows.count, c.in_ok-j.j) = ap (chosen c.read.new.rows.count) (kept c.in_ok-k.k c.read.result (c.in_ok-j.ensures (search rules))) in
    rw c.at.ensures (search (member_over, rules))

pub returns-clause-rows : goal.returns-clause-rows
returns-clause-rows c =
    let e : chosen c.read.new.rows.count c.read.result ≡ Ok (c.read.new.rows.count, c.in_ok-j.j) = ap (chosen c.read.new.rows.count) (kept c.in_ok-k.k c.read.result (c.in_ok-j.ensures (search rules))) in
    search (member_all, rules)
