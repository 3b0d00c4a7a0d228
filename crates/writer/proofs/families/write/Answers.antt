-- `writer::families::write` meets its contract. Assumes nothing.
use borrow.Author.Rules.{rules}
use borrow.Author.Tests.{not-true, not-false}
use Rattle.writer.proofs.Replies.{known_was, known_some, reply_unknown, reply_none, reply_rowless, reply_value}
use Rattle.writer.proofs.families.write.Goals as goal

pub returns-in_default : goal.returns-in_default
returns-in_default c = reply_unknown _ _ _ c.try_from.result c.try_from.ensures c.in_default.not-Ok _ c.refuse.ensures

pub returns-then-not-is_table : goal.returns-then-not-is_table
returns-then-not-is_table c = search (reply_none, known_some c.args.kind c.try_from.ensures c.in-Ok.is, not-true, rules)

pub returns-then-rowless : goal.returns-then-rowless
returns-then-rowless c = let e = known_was c.args.kind c.try_from.ensures c.in-Ok.is in search (reply_rowless, known_some c.args.kind c.try_from.ensures c.in-Ok.is, e, not-false, rules)

pub returns : goal.returns
returns c =
    let e = known_was c.args.kind c.try_from.ensures c.in-Ok.is in
    let q = rw e at c.rowless.ensures in
    let p = rw e at c.put.ensures in
    reply_value c.args.kind c.args.table.now c.args.out.now (known_some c.args.kind c.try_from.ensures c.in-Ok.is) c.is_table.ensures (search (not-false, rules)) q c.put.result c.put.new.out (search (not-true, rules)) p
