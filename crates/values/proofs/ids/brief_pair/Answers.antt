-- `values::ids::brief_pair` meets its contract. Assumes nothing.
use mathlib.Core.Path.{◌∙◌}
use Rattle.values.proofs.IdReads.{pair_brief}
use Rattle.values.proofs.ids.brief_pair.Goals as goal

pub returns : goal.returns
returns c = pair_brief c.args.s.now _ _ c.in_ok-min.ensures _ _ c.in_ok-max.ensures c.if-s-lt2.false c.if-s-ne-SEQUENCE.false (c.if-k-j.false ∙ c.from.ensures)
