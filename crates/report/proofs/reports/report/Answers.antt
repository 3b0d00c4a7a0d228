-- `report::reports::report` meets its contract. Assumes nothing.
use Rattle.std.proofs.Common.{rules}
use Rattle.report.proofs.Lines.{no_most}
use Rattle.report.proofs.Replies.{ok_fits, report_none, report_ok, report_no}
use Rattle.report.proofs.reports.report.Goals as goal

pub returns-then-out-lt-ROOM : goal.returns-then-out-lt-ROOM
returns-then-out-lt-ROOM c = search (report_none, rules)

pub put_ok-requires : goal.put_ok-requires
put_ok-requires c = search (ok_fits, rules)

pub put_no-requires : goal.put_no-requires
put_no-requires c = search (no_most, rules)

pub returns-in-Ok : goal.returns-in-Ok
returns-in-Ok c = search (report_ok, rules)

pub returns-in-Err : goal.returns-in-Err
returns-in-Err c = search (report_no, rules)
