-- `path::certificates::certificate` meets its contract. Assumes nothing.
use borrow.Author.Rules.{rules}
use Rattle.path.proofs.Bridging.{certificate_short, certificate_zeroed, reply_zeroed, reply_stays}
use Rattle.path.proofs.certificates.certificate.Goals as goal

pub returns-then-own-lt-NUMBERS : goal.returns-then-own-lt-NUMBERS
returns-then-own-lt-NUMBERS c = search (certificate_short, rules)

pub returns-then-is_err : goal.returns-then-is_err
returns-then-is_err c = search (reply_zeroed, certificate_zeroed, rules)

pub returns-else-is_err : goal.returns-else-is_err
returns-else-is_err c = search (reply_stays, certificate_zeroed, rules)
