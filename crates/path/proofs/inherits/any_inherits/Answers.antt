-- `path::inherits::any_inherits` meets its contract. Assumes nothing.
use Rattle.path.proofs.Counting.{ask_start, ask_yes, ask_no, ask_end}
use Rattle.path.proofs.inherits.any_inherits.Goals as goal

pub loop-row-init : goal.loop-row-init
loop-row-init c = rw c.into_iter-row-iterator.ensures.into_iter_gives (ask_start c.args.own.now _ _ c.chunks_exact-row-items.ensures.rest c.chunks_exact-row-items.ensures.size)

pub returns-then-inherit-eq1 : goal.returns-then-inherit-eq1
returns-then-inherit-eq1 c = ask_yes c.loop-row.invariant _ _ c.in-Some.ensures.steps.1.0 c.in-Some.ensures.steps.1.1 c.inherit.ensures c.if-inherit-eq1.true

pub loop-row-preserved : goal.loop-row-preserved
loop-row-preserved c = ask_no c.loop-row.invariant _ _ c.in-Some.ensures.steps.1.0 c.in-Some.ensures.steps.1.1 c.inherit.ensures c.if-inherit-eq1.false c.in-Some.ensures.steps.0

pub returns : goal.returns
returns c = ask_end c.loop-row.invariant c.in-None.ensures.steps.1.0
