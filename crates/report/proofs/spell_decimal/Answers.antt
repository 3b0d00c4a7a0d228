-- `report::spell_decimal` meets its contract. Assumes nothing.
use borrow.Author.Rules.{rules}
use Rattle.report.proofs.Digits.{decimal_turn, decimal_last, decimal_end}
use Rattle.report.proofs.spell_decimal.Goals as goal

pub returns-then-left-eq0 : goal.returns-then-left-eq0
returns-then-left-eq0 c = (search rules, search (decimal_last, rules))

pub loop-k-preserved : goal.loop-k-preserved
loop-k-preserved c = search (decimal_turn, rules)

pub returns : goal.returns
returns c = (search rules, search (decimal_end, rules))
