-- `writer::Ids::size` meets its contract. Assumes nothing.
use borrow.Author.Rules.{rules}
use native.Mathlib.Omega.{arith}
use Rattle.der.specs.Tags.{INTEGER}
use Rattle.der.specs.Integer.{integer_octets}
use Rattle.der.proofs.laws.Integers.{integer_most}
use Rattle.writer.proofs.Sizing.{Two, integer_few, integer_two, two_few}
use Rattle.writer.proofs.Numbering.{id_one, id_two}
use Rattle.writer.proofs.Ids.size.Goals as goal

pub element_size-min-requires : goal.element_size-min-requires
element_size-min-requires c = omega (arith, integer_most c.args.self.low)

pub returns-then-self : goal.returns-then-self
returns-then-self c = rw (id_one _ _ c.if-self.true) (integer_few _ c.octets.ensures c.element_size-min.ensures)

pub element_size-requires : goal.element_size-requires
element_size-requires c = omega (arith, integer_most c.args.self.high)

pub overflow_add-min : goal.overflow_add-min
overflow_add-min c = let t : Two INTEGER (integer_octets c.args.self.low) (integer_octets c.args.self.high) c.element_size-min.result c.element_size.result = search (integer_two, rules) in omega arith

pub element_size-requires-2 : goal.element_size-requires-2
element_size-requires-2 c = let t : Two INTEGER (integer_octets c.args.self.low) (integer_octets c.args.self.high) c.element_size-min.result c.element_size.result = search (integer_two, rules) in omega arith

pub returns : goal.returns
returns c = let t : Two INTEGER (integer_octets c.args.self.low) (integer_octets c.args.self.high) c.element_size-min.result c.element_size.result = search (integer_two, rules) in rw (id_two _ _ c.if-self.false) (two_few _ _ _ t c.element_size-2.ensures)
