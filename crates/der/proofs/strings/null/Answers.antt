-- `der::strings::null` meets its contract. Assumes nothing.
use Rattle.std.proofs.Common.{rules}
use Rattle.der.specs.Strings.{is_null}
use Rattle.der.proofs.strings.null.Goals as goal

pub returns : goal.returns
unfolding is_null
returns c = search rules
