-- `path::bundles::length` meets its contract. Assumes nothing.
use borrow.Author.Rules.{rules}
use Rattle.number.proofs.Picks.{picks}
use Rattle.path.specs.Bundle.{length_in}
use Rattle.path.proofs.Framed.{length-is}
use Rattle.path.proofs.bundles.length.Goals as goal

pub returns-then-s-lt2 : goal.returns-then-s-lt2
unfolding length_in
returns-then-s-lt2 c = search (picks, rules)

pub returns : goal.returns
returns c = (search (length-is, rules), search rules)
