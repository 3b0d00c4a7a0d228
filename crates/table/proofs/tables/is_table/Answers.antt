-- `table::tables::is_table` meets its contract. Assumes nothing.
use native.Mathlib.Omega.{arith}
use borrow.Author.Rules.{rules}
use borrow.Author.Tests.{not-true, not-false}
use Rattle.std.proofs.lemmas.Grind.{common_steps}
use Rattle.table.specs.Tables.{is_table}
use Rattle.table.proofs.Listing.{list_start, list_end, list_proper, list_follows, list_turn}
use Rattle.table.proofs.tables.is_table.Goals as goal
use Rattle.table.proofs.tables.is_table.Goals.{then-not-proper-via-then-not-proper, then-not-proper-via-else-not-proper+then-not-follows}

pub returns-then-kind-gt-AS : goal.returns-then-kind-gt-AS
unfolding is_table
returns-then-kind-gt-AS c = grind (arith, common_steps)

pub loop-k-init : goal.loop-k-init
loop-k-init c = search (list_start, rules)

pub returns-then-not-proper : goal.returns-then-not-proper
returns-then-not-proper c =
    elim c.then-not-proper.branch [
      | then-not-proper-via-then-not-proper w ↦ search (list_proper, not-true, rules)
      | then-not-proper-via-else-not-proper+then-not-follows w ↦ search (list_follows, not-true, not-false, rules)
    ]

pub loop-k-preserved : goal.loop-k-preserved
loop-k-preserved c = search (list_turn, not-false, rules)

pub returns : goal.returns
returns c = search (list_end, rules)
