-- `path::certificates::hold` meets its contract. Assumes nothing.
use borrow.Author.Rules.{rules}
use Rattle.path.proofs.Checking.{hold_anchor, hold_covered, hold_missing}
use Rattle.path.proofs.certificates.hold.Goals as goal

pub returns-then-above-eq0 : goal.returns-then-above-eq0
returns-then-above-eq0 c = search (hold_anchor, rules)

pub returns-in-Some : goal.returns-in-Some
returns-in-Some c = search (hold_missing, rules)

pub returns : goal.returns
returns c = search (hold_covered, rules)
