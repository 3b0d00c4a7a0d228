use Rattle.report.specs.Text.{hex_from}
use Rattle.report.proofs.Digits.{Spelled}
use Rattle.report.proofs.spell_hex.Given as goal

abbrev pub invariant-loop-k : goal.invariant-loop-k
invariant-loop-k l = Spelled hex_from l.initial.run l.n l.run l.k l.left
