-- `der::readers::left_at` meets its contract. Assumes nothing.
use borrow.Author.Rules.{rules}
use Rattle.der.specs.Reader.{left_at}
use Rattle.der.proofs.readers.left_at.Goals as goal

pub returns : goal.returns
unfolding left_at
returns c = search rules
