-- `values::addresses::range_row` meets its contract. Assumes nothing.
use borrow.Author.Rules.{rules}
use borrow.Author.Tests.{not-true, not-false}
use native.Mathlib.Omega.{arith}
use Rattle.number.proofs.laws.Orders.{halves_below}
use Rattle.values.proofs.AddressReads.{ranged_order, ranged_min, ranged_max, ranged_prefix, ranged_row}
use Rattle.values.proofs.addresses.range_row.Goals as goal

pub returns-then-not-lt : goal.returns-then-not-lt
returns-then-not-lt c = search (ranged_order, not-true, rules)

pub returns-then-min-kept_min : goal.returns-then-min-kept_min
returns-then-min-kept_min c = search (ranged_min, not-false, rules)

pub returns-then-max-kept_max : goal.returns-then-max-kept_max
returns-then-max-kept_max c = search (ranged_max, not-false, rules)

pub returns-then-is_prefix : goal.returns-then-is_prefix
returns-then-is_prefix c = search (ranged_prefix, not-false, rules)

pub returns : goal.returns
returns c = ranged_row _ _ _ _ _ c.width-width.ensures c.one_filled-high.ensures (halves_below c.args.min.address c.one_filled-high.result (omega arith) (omega arith) c.lt.ensures) c.if-not-lt.false c.kept_min.ensures c.if-min-kept_min.false c.kept_max.ensures c.if-max-kept_max.false c.is_prefix.ensures c.if-is_prefix.false (search rules)
