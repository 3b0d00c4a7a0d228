use Rattle.number.specs.Halves.{whole}
use Rattle.number.proofs.Sixteen.{Stored}
use Rattle.number.proofs.address.from_halves.Given as goal

abbrev pub invariant-loop-k : goal.invariant-loop-k
invariant-loop-k l = Stored (whole l.first) l.place-items l.k
