-- `path::inherits::inherit` meets its contract. Assumes nothing.
use borrow.Author.Rules.{rules}
use Rattle.path.proofs.Inheriting.{none_many, none_rows, cut_off, inherit_short, inherit_lacks, inherit_many, inherit_fills, inherit_rows}
use Rattle.path.proofs.inherits.inherit.Goals as goal

pub returns-then-own-lt-NUMBERS : goal.returns-then-own-lt-NUMBERS
returns-then-own-lt-NUMBERS c = search (inherit_short, rules)

pub returns-then-count-gt-ROWS : goal.returns-then-count-gt-ROWS
returns-then-count-gt-ROWS c = search (none_many, cut_off, rules)

pub returns-then-not-any_inherits : goal.returns-then-not-any_inherits
returns-then-not-any_inherits c = search (none_rows, cut_off, rules)

pub returns-in_err-total : goal.returns-in_err-total
returns-in_err-total c = search (c.in_err-total.was, inherit_lacks, cut_off, rules)

pub returns-then-total-gt-ROWS : goal.returns-then-total-gt-ROWS
returns-then-total-gt-ROWS c = search (c.in_ok-total.was, inherit_many, cut_off, rules)

pub put_all-requires : goal.put_all-requires
put_all-requires c = inherit_fills _ _ _ _ c.count_all.ensures _ c.count-count.ensures (search (cut_off, rules)) _ c.in_ok-total.was c.if-total-gt-ROWS.false

pub returns : goal.returns
returns c = search (c.in_ok-total.was, inherit_rows, cut_off, rules)
