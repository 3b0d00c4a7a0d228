use Rattle.report.specs.Text.{decimal_from}
use Rattle.report.proofs.Digits.{Spelled}
use Rattle.report.proofs.spell_decimal.Given as goal

abbrev pub invariant-loop-k : goal.invariant-loop-k
invariant-loop-k l = Spelled decimal_from l.initial.run l.n l.run l.k l.left
