-- `report::spell_hex` meets its contract. Assumes nothing.
use borrow.Author.Rules.{rules}
use Rattle.report.proofs.Digits.{hex_turn, hex_end}
use Rattle.report.proofs.spell_hex.Goals as goal

pub loop-k-preserved : goal.loop-k-preserved
loop-k-preserved c = search (hex_turn, rules)

pub returns : goal.returns
returns c = search (hex_end, rules)
