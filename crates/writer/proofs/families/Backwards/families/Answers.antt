-- `writer::families::Backwards::families` meets its contract. Assumes nothing.
use mathlib.Core.Path.{refl}
use borrow.Author.Rules.{rules}
use Rattle.table.specs.Spaces.{kind_number}
use Rattle.writer.proofs.Placing.{place_start, place_closing, place_own, place_few, place_turn, place_last, place_end}
use Rattle.writer.proofs.Passing.{pass_own, pass_opened}
use Rattle.writer.proofs.families.Backwards.families.Goals as goal

pub loop-k-init : goal.loop-k-init
loop-k-init c = (refl, place_start (kind_number c.args.one.kind) c.args.one.table.now c.args.self.now.out.now c.args.self.now.start c.args.self.now.inside)

pub closing-requires : goal.closing-requires
closing-requires c =
    let v = c.loop-k.invariant.1 in
    (pass_opened c.args.one.sound v.rows, place_closing c.args.one.sound c.requires c.args.self.now.inside v c.loop-k-test.true c.get-row.ensures)

pub own-requires : goal.own-requires
own-requires c =
    let v = c.loop-k.invariant.1 in
    (pass_own c.args.one.sound v.rows c.loop-k-test.true c.get-row.ensures, place_own c.args.one.sound c.requires c.args.self.now.inside v c.loop-k-test.true c.get-row.ensures c.closing.ensures.written)

pub onward-list-requires : goal.onward-list-requires
onward-list-requires c =
    place_few c.args.one.sound c.requires c.args.self.now.inside c.loop-k.invariant.1 c.loop-k-test.true c.get-row.ensures c.closing.ensures.written c.own.ensures.written

pub loop-k-preserved : goal.loop-k-preserved
loop-k-preserved c =
    (search rules, place_turn c.args.one.sound c.requires c.args.self.now.inside c.loop-k.invariant.1 c.loop-k-test.true c.get-row.ensures c.closing.ensures.written c.own.ensures.written c.onward-list.ensures)

pub close-requires : goal.close-requires
close-requires c =
    let v = c.loop-k.invariant.1 in
    (pass_opened c.args.one.sound v.rows, place_last c.args.one.sound c.requires c.args.self.now.inside v c.loop-k-test.false)

pub returns-clause-written : goal.returns-clause-written
returns-clause-written c = place_end c.args.one.sound c.requires c.args.self.now.inside c.loop-k.invariant.1 c.loop-k-test.false c.close.ensures.written
