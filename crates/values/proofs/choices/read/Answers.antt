-- `values::choices::read` meets its contract. Assumes nothing.
use Rattle.std.proofs.Common.{rules, arith}
use Rattle.der.specs.Tags.{NULL}
use Rattle.values.proofs.Choosing.{choice_null, choice_list}
use Rattle.values.proofs.Joins.{no_tag}
use Rattle.values.proofs.choices.read.Goals.{else-s-gt0-via-then-s-gt0+else-s-eq-NULL, else-s-gt0-via-else-s-gt0}
use Rattle.values.proofs.choices.read.Goals as goal

pub returns-then-s-eq-NULL-clause-rows : goal.returns-then-s-eq-NULL-clause-rows
returns-then-s-eq-NULL-clause-rows c = search (choice_null, rules)

pub returns-clause-rows : goal.returns-clause-rows
returns-clause-rows c =
    choice_list _ _ _ _ _ _
    (elim c.else-s-gt0.branch [ else-s-gt0-via-then-s-gt0+else-s-eq-NULL w ↦ w.if-s-eq-NULL.false | else-s-gt0-via-else-s-gt0 w ↦ no_tag c.args.s.now NULL (omega arith) w.if-s-gt0.false ])
    c.list_at.ensures.rows
