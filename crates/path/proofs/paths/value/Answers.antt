-- `path::paths::value` meets its contract. Assumes nothing.
use mathlib.Core.Path.{◌∙◌}
use borrow.Author.Rules.{rules}
use Rattle.path.proofs.Descending.{value_inside, value_is, after_is}
use Rattle.path.proofs.paths.value.Goals as goal

pub split_at-requires : goal.split_at-requires
split_at-requires c = search (value_inside, rules)

pub returns : goal.returns
returns c = (
  c.split_at.ensures.front ∙ value_is c.args.s.now c.requires c.length.result c.length.ensures.0,
  c.split_at.ensures.back ∙ after_is c.args.s.now c.requires c.length.result c.length.ensures.0,
)
