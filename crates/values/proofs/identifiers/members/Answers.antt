-- `values::identifiers::members` meets its contract. Assumes nothing.
use Rattle.std.proofs.Common.{arith}
use Rattle.values.specs.Limits.{ASNUM}
use Rattle.values.proofs.MemberReads.{members_first, members_last}
use Rattle.values.proofs.Joins.{no_tag}
use Rattle.values.proofs.identifiers.members.Goals.{else-s-gt0-via-then-s-gt0+else-s, else-s-gt0-via-else-s-gt0}
use Rattle.values.proofs.identifiers.members.Goals as goal

pub returns-then-s-clause-rows : goal.returns-then-s-clause-rows
returns-then-s-clause-rows c = members_first _ _ _ _ _ c.if-s.true c.first.ensures.rows

pub returns-clause-rows : goal.returns-clause-rows
returns-clause-rows c =
    members_last _ _ _ _ _
    (elim c.else-s-gt0.branch [ else-s-gt0-via-then-s-gt0+else-s w ↦ w.if-s.false | else-s-gt0-via-else-s-gt0 w ↦ no_tag c.args.s.now ASNUM (omega arith) w.if-s-gt0.false ])
    c.last.ensures.rows
