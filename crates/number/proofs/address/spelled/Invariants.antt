use Rattle.number.proofs.Spelling.{Spelled}
use Rattle.number.proofs.address.spelled.Given as goal

abbrev pub invariant-loop-octet : goal.invariant-loop-octet
invariant-loop-octet l = Spelled l.octets l.n l.octet-index
