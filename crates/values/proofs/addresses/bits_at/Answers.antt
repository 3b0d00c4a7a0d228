-- `values::addresses::bits_at` meets its contract. Assumes nothing.
use Rattle.std.proofs.Common.{rules}
use Rattle.number.specs.Octets.{Octets}
use Rattle.values.specs.Faults.{at}
use Rattle.values.proofs.Exits.{handed, no_other}
use Rattle.values.proofs.Joins.{tag_order, tag_inside}
use Rattle.values.proofs.AddressReads.{strung, bits_refused, bits_isnt, bits_took}
use Rattle.values.proofs.addresses.bits_at.Goals as goal

pub returns-in_err-k-clause-seen : goal.returns-in_err-k-clause-seen
returns-in_err-k-clause-seen c =
    rw (handed (at 0 _) c.from_residual.ensures.1) (bits_refused c.args.width c.args.s.now c.open.ensures _ c.in_err-k.was).told

pub slice_bounds-read-count : goal.slice_bounds-read-count
slice_bounds-read-count c = search (tag_order, rules)

pub slice_bounds-read-start : goal.slice_bounds-read-start
slice_bounds-read-start c = search (tag_order, rules)

pub slice_bounds-read-end : goal.slice_bounds-read-end
slice_bounds-read-end c = search (tag_inside, rules)

pub returns-in_err-string-clause-seen : goal.returns-in_err-string-clause-seen
returns-in_err-string-clause-seen c =
    rw (handed (at 0 _) c.from_residual-in_err-string.ensures.1, no_other c.in_err-string.ensures.value c.in_err-string.ensures.ok_part)
    (bits_isnt c.args.width c.args.s.now c.open.ensures _ _ c.in_ok-k.was c.read.ensures c.in_err-string.ensures.ok_part).told

pub returns-clause-seen : goal.returns-clause-seen
returns-clause-seen c = let o : Octets c.args.s.now = unfold Octets in (λ i. (c.type_inv.s i).fits) in
    (strung (bits_took c.args.width c.args.s.now c.open.ensures _ _ c.in_ok-k.was c.read.ensures _ o c.in_ok-string.ensures.ok_part c.to_halves.ensures)).0

pub returns-clause-inside : goal.returns-clause-inside
returns-clause-inside c = let o : Octets c.args.s.now = unfold Octets in (λ i. (c.type_inv.s i).fits) in
    (strung (bits_took c.args.width c.args.s.now c.open.ensures _ _ c.in_ok-k.was c.read.ensures _ o c.in_ok-string.ensures.ok_part c.to_halves.ensures)).1
