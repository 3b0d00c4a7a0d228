use Rattle.number.proofs.Spelling.{Spelled}
use Rattle.der.proofs.Padding.{pad}
use Rattle.der.proofs.bits.padded.Given as goal

abbrev pub invariant-loop-k : goal.invariant-loop-k
invariant-loop-k l = Spelled (pad 8 l.s) l.n l.k
