-- `report::Text::decimal` meets its contract. Assumes nothing.
use borrow.Author.Rules.{rules}
use Rattle.report.proofs.Digits.{decimal_part}
use Rattle.report.proofs.Putting.{fits_same, put_same}
use Rattle.report.proofs.Text.decimal.Goals as goal

pub put-requires : goal.put-requires
put-requires c = search (fits_same, decimal_part, rules)

pub returns-clause-written : goal.returns-clause-written
returns-clause-written c = search (put_same, decimal_part, rules)
