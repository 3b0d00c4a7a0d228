-- `values::brief_addresses::is_range` meets its contract. Assumes nothing.
use Rattle.values.proofs.BriefSpans.{range_sure}
use Rattle.values.proofs.brief_addresses.is_range.Goals as goal

pub returns-then-more : goal.returns-then-more
returns-then-more c = range_sure _ _ _ _ c.if-min-eq0.false c.if-max-eq1.false c.if-max-eq0.false c.filled-last.ensures c.if-last-min.false
