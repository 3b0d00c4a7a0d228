-- `der::bits::read` meets its contract. Assumes nothing.
use borrow.Author.Rules.{rules}
use Prim.Native.Nat.{ℕ}
use Rattle.der.proofs.Beginnings.{refused_empty, refused_initial, refused_long, refused_few, refused_wide, refused_set, taken}
use Rattle.der.proofs.bits.read.Goals as goal

pub returns-then-contents-eq0 : goal.returns-then-contents-eq0
returns-then-contents-eq0 c = search (refused_empty, rules)

pub returns-then-unused-gt7 : goal.returns-then-unused-gt7
returns-then-unused-gt7 c = search (refused_initial, rules)

pub returns-then-octets-gt16 : goal.returns-then-octets-gt16
returns-then-octets-gt16 c = search (refused_long, rules)

pub returns-then-all-unused : goal.returns-then-all-unused
returns-then-all-unused c = search (refused_few, rules)

pub returns-then-bits-count : goal.returns-then-bits-count
returns-then-bits-count c = search (refused_wide, rules)

pub returns-then-ends_in_zeros : goal.returns-then-ends_in_zeros
returns-then-ends_in_zeros c = let b = λ (k : ℕ). (c.type_inv.contents k).fits in search (taken, rules)

pub returns : goal.returns
returns c = search (refused_set, rules)
