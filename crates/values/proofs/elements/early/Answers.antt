-- `values::elements::early` meets its contract. Assumes nothing.
use Rattle.std.proofs.Common.{rules, eq-eqb}
use Rattle.values.proofs.Listing.{least_first, least_later}
use Rattle.values.proofs.elements.early.Goals as goal

pub returns-then-at-ne0 : goal.returns-then-at-ne0
returns-then-at-ne0 c = search (least_later, rules)

pub returns-else-at-ne0 : goal.returns-else-at-ne0
returns-else-at-ne0 c =
    rw (eq-eqb c.args.at 0 c.if-at-ne0.false) (search (least_first, rules))
