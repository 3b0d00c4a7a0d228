-- `report::glyph` meets its contract. Assumes nothing.
use borrow.Author.Rules.{rules}
use Rattle.report.proofs.Digits.{digit_low, digit_high}
use Rattle.report.proofs.glyph.Goals as goal

pub returns-then-d-lt10 : goal.returns-then-d-lt10
returns-then-d-lt10 c = search (digit_low, rules)

pub returns : goal.returns
returns c = search (digit_high, rules)
