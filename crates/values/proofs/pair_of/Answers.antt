-- `values::pair_of` meets its contract. Assumes nothing.
use mathlib.Core.Path.{refl, ap, ◌∙◌}
use Rattle.std.specs.Fn.{FnReturnsAt}
use Rattle.std.specs.Prelude.{Err}
use Rattle.std.proofs.Common.{rules}
use Rattle.std.proofs.lemmas.Fn.{says_at}
use Rattle.values.proofs.Exits.{handed, shifted, kept}
use Rattle.values.proofs.PairReads.{place_left, place_fits, second_refused, second_over, second_last}
use Rattle.values.proofs.pair_of.Goals as goal

pub returns-in_err-min-clause-inside : goal.returns-in_err-min-clause-inside
returns-in_err-min-clause-inside g c = rw (handed _ c.from_residual.ensures.1) (c.requires.bounded c.args.s.now _ (says_at g.F.Fn c.in_err-min.ensures refl))

pub slice_bounds-rest-count : goal.slice_bounds-rest-count
slice_bounds-rest-count g c = (c.requires.bounded c.args.s.now _ (says_at g.F.Fn c.in_ok-min.ensures refl)).1

pub slice_bounds-rest-start : goal.slice_bounds-rest-start
slice_bounds-rest-start g c =
    let l = (c.requires.bounded c.args.s.now _ (says_at g.F.Fn c.in_ok-min.ensures refl)).1 in
    search rules

pub returns-in_err-max-clause-inside : goal.returns-in_err-max-clause-inside
returns-in_err-max-clause-inside g c =
    let l = (c.requires.bounded c.args.s.now _ (says_at g.F.Fn c.in_ok-min.ensures refl)).1 in
    let b = place_fits c.in_ok-min.k c.args.s.now c.one-2.result (search rules) l (c.requires.bounded _ c.one-2.result (says_at g.F.Fn c.one-2.ensures refl)) in
    let (f, p, q) = shifted c.in_ok-min.k c.one-2.result (c.in_err-max.ensures b) in
    rw (handed _ c.from_residual-in_err-max.ensures.1, q)
    (place_left c.in_ok-min.k f.place c.args.s.now l (rw p at (c.requires.bounded _ c.one-2.result (says_at g.F.Fn c.one-2.ensures refl))))

pub returns-in_err-max-clause-read : goal.returns-in_err-max-clause-read
returns-in_err-max-clause-read g c =
    let l = (c.requires.bounded c.args.s.now _ (says_at g.F.Fn c.in_ok-min.ensures refl)).1 in
    let b = place_fits c.in_ok-min.k c.args.s.now c.one-2.result (search rules) l (c.requires.bounded _ c.one-2.result (says_at g.F.Fn c.one-2.ensures refl)) in
    let (f, p, q) = shifted c.in_ok-min.k c.one-2.result (c.in_err-max.ensures b) in
    second_refused (FnReturnsAt g.F.Fn c.args.one.now) c.args.s.now c.in_ok-min.min c.in_ok-min.k c.one-2.result _ (says_at g.F.Fn c.in_ok-min.ensures refl) (says_at g.F.Fn c.one-2.ensures refl) f p (handed _ c.from_residual-in_err-max.ensures.1 ∙ ap Err q)

pub returns-then-j-rest-clause-read : goal.returns-then-j-rest-clause-read
returns-then-j-rest-clause-read g c =
    let l = (c.requires.bounded c.args.s.now _ (says_at g.F.Fn c.in_ok-min.ensures refl)).1 in
    let b = place_fits c.in_ok-min.k c.args.s.now c.one-2.result (search rules) l (c.requires.bounded _ c.one-2.result (says_at g.F.Fn c.one-2.ensures refl)) in
    second_over (FnReturnsAt g.F.Fn c.args.one.now) c.args.s.now c.in_ok-min.min c.in_ok-min.k c.one-2.result _ (says_at g.F.Fn c.in_ok-min.ensures refl) (says_at g.F.Fn c.one-2.ensures refl) _ _ (kept c.in_ok-min.k c.one-2.result (c.in_ok-max.ensures b)) c.if-j-rest.true (ap Err c.at.ensures)

pub returns-clause-read : goal.returns-clause-read
returns-clause-read g c =
    let l = (c.requires.bounded c.args.s.now _ (says_at g.F.Fn c.in_ok-min.ensures refl)).1 in
    let b = place_fits c.in_ok-min.k c.args.s.now c.one-2.result (search rules) l (c.requires.bounded _ c.one-2.result (says_at g.F.Fn c.one-2.ensures refl)) in
    second_last (FnReturnsAt g.F.Fn c.args.one.now) c.args.s.now c.in_ok-min.min c.in_ok-min.k c.one-2.result _ (says_at g.F.Fn c.in_ok-min.ensures refl) (says_at g.F.Fn c.one-2.ensures refl) _ _ (kept c.in_ok-min.k c.one-2.result (c.in_ok-max.ensures b)) c.if-j-rest.false refl
