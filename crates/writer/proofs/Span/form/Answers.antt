-- `writer::Span::form` meets its contract. Assumes nothing.
use borrow.Author.Rules.{rules}
use Rattle.writer.proofs.Shaping.{shape_prefix, shape_range}
use Rattle.writer.proofs.Span.form.Goals as goal

pub returns-in-Some : goal.returns-in-Some
returns-in-Some c = search (shape_prefix, rules)

pub returns-in-None : goal.returns-in-None
returns-in-None c = search (shape_range, rules)
