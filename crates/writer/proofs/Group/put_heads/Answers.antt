-- `writer::Group::put_heads` meets its contract. Assumes nothing.
use mathlib.Core.Path.{◌∙◌}
use borrow.Author.Rules.{rules}
use Prim.Native.Nat.{◌+◌, ◌≤◌}
use native.Mathlib.Omega.{arith}
use lib.ListN.{length}
use Rattle.der.specs.Tags.{OCTET_STRING}
use Rattle.der.specs.Head.{element}
use Rattle.values.specs.Encode.{space_octets}
use Rattle.der.proofs.laws.Heads.{head_few}
use Rattle.writer.proofs.Fronts.{family_room, family_put, asnum_put, rdi_put}
use Rattle.table.proofs.laws.Papers.{ip_number, as_number}
use Rattle.writer.proofs.Group.put_heads.Goals as goal

pub overflow_add-all : goal.overflow_add-all
overflow_add-all c = omega (arith, head_few c.space_size.result)

pub overflow_add-at : goal.overflow_add-at
overflow_add-at c = let r : c.args.at + c.head_size.result + length (element OCTET_STRING (space_octets c.args.self.space)) ≤ length c.args.out.now = search (family_room, ip_number, rules) in omega arith

pub put_space-requires : goal.put_space-requires
put_space-requires c = let r : c.args.at + c.head_size.result + length (element OCTET_STRING (space_octets c.args.self.space)) ≤ length c.args.out.now = search (family_room, ip_number, rules) in (c.requires.0 ∙ (ip_number c.in-Ip.is), omega arith)

pub returns-in-Ip : goal.returns-in-Ip
returns-in-Ip c = search (family_put, ip_number, rules)

pub returns-in-As : goal.returns-in-As
returns-in-As c = search (asnum_put, as_number, rules)

pub returns-in-As-2 : goal.returns-in-As-2
returns-in-As-2 c = search (rdi_put, as_number, rules)
