-- `values::ids::element` meets its contract. Assumes nothing.
use Rattle.std.proofs.Common.{rules}
use Rattle.number.proofs.Picks.{picks}
use Rattle.values.specs.Ids.{id_at}
use Rattle.values.proofs.Joins.{no_tag}
use Rattle.values.proofs.ids.element.Goals.{else-s-gt0-via-then-s-gt0+else-s-eq-INTEGER, else-s-gt0-via-else-s-gt0}
use Rattle.values.proofs.ids.element.Goals as goal

pub returns-then-s-eq-INTEGER-clause-seen : goal.returns-then-s-eq-INTEGER-clause-seen
unfolding id_at
returns-then-s-eq-INTEGER-clause-seen g c = let h = c.number_at.ensures.seen in search (picks, rules)

pub returns-clause-seen : goal.returns-clause-seen
unfolding id_at
returns-clause-seen g c =
    let h = c.range_at.ensures.seen in
    elim c.else-s-gt0.branch [
      | else-s-gt0-via-then-s-gt0+else-s-eq-INTEGER w ↦ let n = w.if-s-eq-INTEGER.false in search (picks, rules)
      | else-s-gt0-via-else-s-gt0 w ↦ let n = w.if-s-gt0.false in search (no_tag, picks, rules)
    ]
