-- `values::addresses::any_element` meets its contract. Assumes nothing.
use Rattle.std.proofs.Common.{rules}
use Rattle.number.proofs.Picks.{picks}
use Rattle.values.specs.Addresses.{address_at}
use Rattle.values.proofs.Joins.{no_tag}
use Rattle.values.proofs.addresses.any_element.Goals.{else-s-gt0-via-then-s-gt0+else-s-eq-BIT_STRING, else-s-gt0-via-else-s-gt0}
use Rattle.values.proofs.addresses.any_element.Goals as goal

pub returns-then-s-eq-BIT_STRING-clause-seen : goal.returns-then-s-eq-BIT_STRING-clause-seen
unfolding address_at
returns-then-s-eq-BIT_STRING-clause-seen c = let h = c.prefix_at.ensures.seen in search (picks, rules)

pub returns-clause-seen : goal.returns-clause-seen
unfolding address_at
returns-clause-seen c =
    let h = c.range_at.ensures.seen in
    elim c.else-s-gt0.branch [
      | else-s-gt0-via-then-s-gt0+else-s-eq-BIT_STRING w ↦ let n = w.if-s-eq-BIT_STRING.false in search (picks, rules)
      | else-s-gt0-via-else-s-gt0 w ↦ let n = w.if-s-gt0.false in search (no_tag, picks, rules)
    ]
