-- `path::walks::walk` meets its contract. Assumes nothing.
use borrow.Author.Rules.{rules}
use Rattle.path.proofs.Walking.{walk_start, walk_end, walk_out, walk_own, walk_issuer, walk_stops}
use Rattle.path.proofs.walks.walk.Goals as goal

pub loop-left-init : goal.loop-left-init
loop-left-init c = search (walk_start, rules)

pub returns-then-held-lt-ROW : goal.returns-then-held-lt-ROW
returns-then-held-lt-ROW c = search (walk_out, rules)

-- the loop's head, its two tests, how the rows meet, and the arm that was taken: twice, since the search does not reach so far back
pub loop-left-preserved-in-Within : goal.loop-left-preserved-in-Within
loop-left-preserved-in-Within c = walk_own c.loop-left.invariant c.loop-left-test.true c.if-held-lt-ROW.false c.how.ensures c.in-Within.is

pub loop-left-preserved : goal.loop-left-preserved
loop-left-preserved c = walk_issuer c.loop-left.invariant c.loop-left-test.true c.if-held-lt-ROW.false c.how.ensures c.in-Passed.is

pub returns-in-Apart : goal.returns-in-Apart
returns-in-Apart c = search (walk_stops, rules)

pub returns : goal.returns
returns c = search (walk_end, rules)
