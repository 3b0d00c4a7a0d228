-- `values::briefs::is_brief` meets its contract. Assumes nothing.
use Rattle.std.proofs.Common.{rules}
use Rattle.number.proofs.Picks.{picks}
use Rattle.values.specs.Briefs.{is_brief}
use Rattle.values.proofs.briefs.is_brief.Goals.{then-s-lt11-via-then-s-lt11, then-s-lt11-via-else-s-lt11+then-s-tag, then-s-lt11-via-else-s-lt11+else-s-tag+then-s-least}
use Rattle.values.proofs.briefs.is_brief.Goals as goal

pub returns-then-s-lt11 : goal.returns-then-s-lt11
unfolding is_brief
returns-then-s-lt11 c =
    elim c.then-s-lt11.branch [
      | then-s-lt11-via-then-s-lt11 w ↦ let a = w.if-s-lt11.true in search (picks, rules)
      | then-s-lt11-via-else-s-lt11+then-s-tag w ↦ let a = w.if-s-lt11.false in let b = w.if-s-tag.true in search (picks, rules)
      | then-s-lt11-via-else-s-lt11+else-s-tag+then-s-least w ↦ let a = w.if-s-lt11.false in let b = w.if-s-tag.false in let d = w.if-s-least.true in search (picks, rules)
    ]

pub returns : goal.returns
unfolding is_brief
returns c = search (picks, rules)
