-- `path::certificates::inherit` meets its contract. Assumes nothing.
use borrow.Author.Rules.{rules}
use Rattle.path.proofs.Checking.{inherits_holds, inherits_not}
use Rattle.path.proofs.certificates.inherit.Goals as goal

pub returns-in-Ok : goal.returns-in-Ok
returns-in-Ok c = search (inherits_holds, rules)

pub returns-in-Err : goal.returns-in-Err
returns-in-Err c = search (inherits_not, rules)
