-- `path::bundles::is_values` meets its contract. Assumes nothing.
use borrow.Author.Rules.{rules}
use native.Mathlib.Nat.{sub-zero}
use Rattle.path.proofs.Framed.{end_inside, values_end, values_cut, values_turn}
use Rattle.path.proofs.bundles.is_values.Goals as goal

pub loop-init : goal.loop-init
loop-init c = rw sub-zero

pub returns-in_default : goal.returns-in_default
returns-in_default c = search (values_cut, rules)

pub slice_bounds-rest-count : goal.slice_bounds-rest-count
slice_bounds-rest-count c = search (end_inside, rules)

pub slice_bounds-rest-start : goal.slice_bounds-rest-start
slice_bounds-rest-start c = search (end_inside, rules)

pub loop-preserved : goal.loop-preserved
loop-preserved c = search (values_turn, rules)

pub returns : goal.returns
returns c = search (values_end, rules)
