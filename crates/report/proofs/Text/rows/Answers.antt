-- `report::Text::rows` meets its contract. Assumes nothing.
use mathlib.Core.Path.{refl}
use borrow.Author.Rules.{rules}
use Rattle.report.proofs.Lines.{line_start, line_room, line_turn}
use Rattle.report.proofs.Text.rows.Goals as goal

pub loop-k-init : goal.loop-k-init
loop-k-init c = (refl, search (line_start, rules))

pub row-requires : goal.row-requires
row-requires c = search (line_room, rules)

pub loop-k-preserved : goal.loop-k-preserved
loop-k-preserved c = (search rules, search (line_turn, rules))
