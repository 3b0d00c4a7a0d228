-- `writer::Ids::put` meets its contract. Assumes nothing.
use borrow.Author.Rules.{rules}
use Prim.Native.Nat.{◌+◌}
use native.Mathlib.Omega.{arith}
use Rattle.der.specs.Tags.{INTEGER}
use Rattle.der.specs.Head.{element}
use Rattle.der.specs.Integer.{integer_octets}
use Rattle.der.proofs.laws.Integers.{integer_most}
use Rattle.writer.proofs.Sizing.{Two, integer_two}
use Rattle.writer.proofs.Numbering.{id_one, id_two}
use Rattle.writer.proofs.Pieces.{Rooms, two_rooms, two_put}
use Rattle.writer.proofs.Ids.put.Goals as goal

pub put_integer-requires : goal.put_integer-requires
put_integer-requires c = rw (id_one _ _ c.if-self.true) at c.requires

pub returns-then-self : goal.returns-then-self
returns-then-self c = rw (id_one _ _ c.if-self.true) c.put_integer.ensures

pub element_size-min-requires : goal.element_size-min-requires
element_size-min-requires c = omega (arith, integer_most c.args.self.low)

pub element_size-requires : goal.element_size-requires
element_size-requires c = omega (arith, integer_most c.args.self.high)

pub overflow_add-both : goal.overflow_add-both
overflow_add-both c = let t : Two INTEGER (integer_octets c.args.self.low) (integer_octets c.args.self.high) c.element_size-min.result c.element_size.result = search (integer_two, rules) in omega arith

pub overflow_add-inner : goal.overflow_add-inner
overflow_add-inner c = let t : Two INTEGER (integer_octets c.args.self.low) (integer_octets c.args.self.high) c.element_size-min.result c.element_size.result = search (integer_two, rules) in let f = rw (id_two _ _ c.if-self.false) at c.requires in let r : Rooms c.args.out.now (c.args.at + c.head_size.result) c.element_size-min.result (element INTEGER (integer_octets c.args.self.low)) (element INTEGER (integer_octets c.args.self.high)) = search (two_rooms, rules) in omega arith

pub put_integer-requires-2 : goal.put_integer-requires-2
put_integer-requires-2 c = let t : Two INTEGER (integer_octets c.args.self.low) (integer_octets c.args.self.high) c.element_size-min.result c.element_size.result = search (integer_two, rules) in let f = rw (id_two _ _ c.if-self.false) at c.requires in let r : Rooms c.args.out.now (c.args.at + c.head_size.result) c.element_size-min.result (element INTEGER (integer_octets c.args.self.low)) (element INTEGER (integer_octets c.args.self.high)) = search (two_rooms, rules) in omega arith

pub overflow_add-inner-2 : goal.overflow_add-inner-2
overflow_add-inner-2 c = let t : Two INTEGER (integer_octets c.args.self.low) (integer_octets c.args.self.high) c.element_size-min.result c.element_size.result = search (integer_two, rules) in let f = rw (id_two _ _ c.if-self.false) at c.requires in let r : Rooms c.args.out.now (c.args.at + c.head_size.result) c.element_size-min.result (element INTEGER (integer_octets c.args.self.low)) (element INTEGER (integer_octets c.args.self.high)) = search (two_rooms, rules) in omega arith

pub put_integer-requires-3 : goal.put_integer-requires-3
put_integer-requires-3 c = let t : Two INTEGER (integer_octets c.args.self.low) (integer_octets c.args.self.high) c.element_size-min.result c.element_size.result = search (integer_two, rules) in let f = rw (id_two _ _ c.if-self.false) at c.requires in let r : Rooms c.args.out.now (c.args.at + c.head_size.result) c.element_size-min.result (element INTEGER (integer_octets c.args.self.low)) (element INTEGER (integer_octets c.args.self.high)) = search (two_rooms, rules) in omega arith

pub returns : goal.returns
returns c = let t : Two INTEGER (integer_octets c.args.self.low) (integer_octets c.args.self.high) c.element_size-min.result c.element_size.result = search (integer_two, rules) in let e = id_two _ _ c.if-self.false in let f = rw e at c.requires in rw e (search (two_put, rules))
