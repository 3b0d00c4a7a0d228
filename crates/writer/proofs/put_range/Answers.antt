-- `writer::put_range` meets its contract. Assumes nothing.
use native.Mathlib.Omega.{arith}
use Rattle.der.specs.Tags.{BIT_STRING}
use Rattle.writer.proofs.Sizing.{bits_most}
use Rattle.writer.proofs.Shaping.{kept_two}
use Rattle.writer.proofs.Pieces.{two_rooms, two_put}
use Rattle.writer.proofs.put_range.Goals as goal

pub element_size-first-requires : goal.element_size-first-requires
element_size-first-requires c = omega (arith, bits_most c.args.min.width _ c.args.min.kept)

pub element_size-requires : goal.element_size-requires
element_size-requires c = omega (arith, bits_most c.args.max.width _ c.args.max.kept)

pub overflow_add-both : goal.overflow_add-both
overflow_add-both c =
    let t = kept_two c.args.min c.args.max c.octets.ensures c.octets-2.ensures c.element_size-first.ensures c.element_size.ensures in
    omega (arith, t.few)

pub overflow_add-inner : goal.overflow_add-inner
overflow_add-inner c =
    let t = kept_two c.args.min c.args.max c.octets.ensures c.octets-2.ensures c.element_size-first.ensures c.element_size.ensures in
    let r = two_rooms c.args.out.now c.args.at BIT_STRING _ _ t c.head_size.ensures c.requires in
    omega (arith, r.first)

pub put-requires : goal.put-requires
put-requires c =
    let t = kept_two c.args.min c.args.max c.octets.ensures c.octets-2.ensures c.element_size-first.ensures c.element_size.ensures in
    let r = two_rooms c.args.out.now c.args.at BIT_STRING _ _ t c.head_size.ensures c.requires in
    omega (arith, r.first)

pub overflow_add-inner-2 : goal.overflow_add-inner-2
overflow_add-inner-2 c =
    let t = kept_two c.args.min c.args.max c.octets.ensures c.octets-2.ensures c.element_size-first.ensures c.element_size.ensures in
    let r = two_rooms c.args.out.now c.args.at BIT_STRING _ _ t c.head_size.ensures c.requires in
    omega (arith, r.second)

pub put-requires-2 : goal.put-requires-2
put-requires-2 c =
    let t = kept_two c.args.min c.args.max c.octets.ensures c.octets-2.ensures c.element_size-first.ensures c.element_size.ensures in
    let r = two_rooms c.args.out.now c.args.at BIT_STRING _ _ t c.head_size.ensures c.requires in
    omega (arith, r.second)

pub returns : goal.returns
returns c =
    let t = kept_two c.args.min c.args.max c.octets.ensures c.octets-2.ensures c.element_size-first.ensures c.element_size.ensures in
    two_put c.args.out.now c.args.at BIT_STRING _ _ t c.head_size.ensures c.requires c.put_head.ensures c.put.ensures c.put-2.ensures
