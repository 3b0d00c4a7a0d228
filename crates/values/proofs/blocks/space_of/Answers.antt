-- `values::blocks::space_of` meets its contract. Assumes nothing.
use Rattle.std.proofs.Common.{rules, arith}
use mathlib.Core.Path.{ap}
use mathlib.Core.Bool.{not}
use Rattle.values.proofs.Spacing.{space_size, sized_least, space_low, space_high, space_plain, space_safi}
use Rattle.values.proofs.blocks.space_of.Goals.{then-afi-lt1-via-then-afi-lt1, then-afi-lt1-via-else-afi-lt1+then-afi-gt2}
use Rattle.values.proofs.blocks.space_of.Goals as goal

pub returns-then-not-sized : goal.returns-then-not-sized
returns-then-not-sized c = search (space_size, rules)

pub bounds-contents-0 : goal.bounds-contents-0
bounds-contents-0 c = let h = sized_least _ c.sized.ensures (ap not c.if-not-sized.false) in omega arith

pub bounds-contents-1 : goal.bounds-contents-1
bounds-contents-1 c = let h = sized_least _ c.sized.ensures (ap not c.if-not-sized.false) in omega arith

pub returns-then-afi-lt1 : goal.returns-then-afi-lt1
returns-then-afi-lt1 c =
    elim c.then-afi-lt1.branch [
      | then-afi-lt1-via-then-afi-lt1 w ↦ let h = w.if-afi-lt1.true in search (space_low, rules)
      | then-afi-lt1-via-else-afi-lt1+then-afi-gt2 w ↦ let h = w.if-afi-gt2.true in search (space_high, rules)
    ]

pub returns-then-contents-lt3 : goal.returns-then-contents-lt3
returns-then-contents-lt3 c = search (space_plain, rules)

pub returns : goal.returns
returns c = search (space_safi, rules)
