-- `path::bundles::is_marked` meets its contract. Assumes nothing.
use borrow.Author.Rules.{rules}
use Rattle.path.proofs.Framed.{mark_tests}
use Rattle.path.proofs.bundles.is_marked.Goals as goal

pub returns : goal.returns
returns c = search (mark_tests, rules)
