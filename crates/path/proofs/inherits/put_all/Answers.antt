-- `path::inherits::put_all` meets its contract. Assumes nothing.
use borrow.Author.Rules.{rules}
use Rattle.path.proofs.Putting.{resolve_start, resolve_fits, resolve_turn, resolve_end}
use Rattle.path.proofs.inherits.put_all.Goals as goal

pub loop-k-init : goal.loop-k-init
loop-k-init c = search (resolve_start, rules)

pub put_row-w-requires : goal.put_row-w-requires
put_row-w-requires c = search (resolve_fits, rules)

pub loop-k-preserved : goal.loop-k-preserved
loop-k-preserved c = search (resolve_turn, rules)

pub returns : goal.returns
returns c = search (resolve_end, rules)
