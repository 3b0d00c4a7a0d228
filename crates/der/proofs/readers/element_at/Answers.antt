-- `der::readers::element_at` meets its contract. Assumes nothing.
use Rattle.std.proofs.Common.{rules}
use Rattle.der.proofs.Places.{element_past, element_rest}
use Rattle.der.proofs.readers.element_at.Goals as goal

pub returns-then-value-at : goal.returns-then-value-at
returns-then-value-at c = search (element_past, rules)

pub returns : goal.returns
returns c = search (element_rest, rules)
