-- `values::blocks::read` meets its contract. Assumes nothing.
use Rattle.std.proofs.Common.{rules}
use Rattle.std.specs.Prelude.{◌≡◌, Ok, Err}
use Rattle.values.specs.Faults.{at}
use Rattle.values.proofs.Exits.{handed, shifted, kept}
use Rattle.values.proofs.Joins.{tag_order, tag_inside}
use Rattle.values.proofs.FamilyReads.{blocks_bad, blocks_isnt, blocks_over, blocks_all}
use Rattle.values.proofs.blocks.read.Goals as goal

pub returns-in_err-k : goal.returns-in_err-k
returns-in_err-k c = rw (handed (at 0 _) c.from_residual.ensures.1) (search (blocks_bad, rules))

pub slice_bounds-families-count : goal.slice_bounds-families-count
slice_bounds-families-count c = search (tag_order, rules)

pub slice_bounds-families-start : goal.slice_bounds-families-start
slice_bounds-families-start c = search (tag_order, rules)

pub slice_bounds-families-end : goal.slice_bounds-families-end
slice_bounds-families-end c = search (tag_inside, rules)

pub returns-in_err-n : goal.returns-in_err-n
returns-in_err-n c =
    let p = shifted c.in_ok-k.k c.families.result (c.in_err-n.ensures (search rules)) in
    let e : c.families.result ≡ Err p.0 = p.1 in
    rw (handed _ c.from_residual-in_err-n.ensures.1, p.2) (search (blocks_isnt, rules))

pub returns-then-end-value : goal.returns-then-end-value
returns-then-end-value c =
    let e : c.families.result ≡ Ok _ = kept c.in_ok-k.k c.families.result (c.in_ok-n.ensures (search rules)) in
    rw c.at.ensures (search (blocks_over, rules))

pub returns : goal.returns
returns c =
    let e : c.families.result ≡ Ok _ = kept c.in_ok-k.k c.families.result (c.in_ok-n.ensures (search rules)) in
    search (blocks_all, rules)
