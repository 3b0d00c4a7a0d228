-- `values::choices::list_at` meets its contract. Assumes nothing.
use mathlib.Core.Path.{ap}
use Rattle.std.proofs.Common.{rules}
use Rattle.std.specs.Prelude.{◌≡◌, Ok, Err}
use Rattle.values.specs.Faults.{at}
use Rattle.values.specs.Into.{counted}
use Rattle.values.proofs.Exits.{handed, shifted, kept}
use Rattle.values.proofs.Joins.{tag_order, tag_inside}
use Rattle.values.proofs.Choosing.{list_bad, list_isnt, list_none, list_some}
use Rattle.values.proofs.choices.list_at.Goals as goal

pub returns-in_err-k-clause-rows : goal.returns-in_err-k-clause-rows
returns-in_err-k-clause-rows c = rw (handed (at 0 _) c.from_residual.ensures.1) (search (list_bad, rules))

pub slice_bounds-read-count : goal.slice_bounds-read-count
slice_bounds-read-count c = search (tag_order, rules)

pub slice_bounds-read-start : goal.slice_bounds-read-start
slice_bounds-read-start c = search (tag_order, rules)

pub slice_bounds-read-end : goal.slice_bounds-read-end
slice_bounds-read-end c = search (tag_inside, rules)

pub returns-in_err-after-clause-rows : goal.returns-in_err-after-clause-rows
returns-in_err-after-clause-rows c =
    let p = shifted c.in_ok-k.k c.read.result (c.in_err-after.ensures (search rules)) in
    let e : counted c.read.new.rows.count c.read.result ≡ Err p.0 = ap (counted c.read.new.rows.count) p.1 in
    rw (handed _ c.from_residual-in_err-after.ensures.1, p.2) (search (list_isnt, rules))

pub returns-then-rows-before-clause-rows : goal.returns-then-rows-before-clause-rows
returns-then-rows-before-clause-rows c =
    let e : counted c.read.new.rows.count c.read.result ≡ Ok c.read.new.rows.count = ap (counted c.read.new.rows.count) (kept c.in_ok-k.k c.read.result (c.in_ok-after.ensures (search rules))) in
    rw c.from.ensures (search (list_none, rules))

pub returns-clause-rows : goal.returns-clause-rows
returns-clause-rows c =
    let e : counted c.read.new.rows.count c.read.result ≡ Ok c.read.new.rows.count = ap (counted c.read.new.rows.count) (kept c.in_ok-k.k c.read.result (c.in_ok-after.ensures (search rules))) in
    search (list_some, rules)
