-- `path::paths::descend` meets its contract: it calls itself with one certificate less. Assumes nothing.
use native.Mathlib.Omega.{arith}
use borrow.Author.Rules.{rules}
use Rattle.path.proofs.Descending.{descend_end, ip_there, ids_there, few_pairs, descending, descend_refused, descend_on}
use Rattle.path.proofs.paths.+descend.Goals as goal

pub returns-then-left-eq0 : goal.returns-then-left-eq0
returns-then-left-eq0 t c = search (descend_end, rules)

pub value-requires : goal.value-requires
value-requires t c = ip_there c.requires c.if-left-eq0.false

pub value-requires-2 : goal.value-requires-2
value-requires-2 t c = ids_there c.requires c.if-left-eq0.false c.value.ensures.1

pub returns-in-Err : goal.returns-in-Err
returns-in-Err t c = descend_refused c.requires c.if-left-eq0.false c.value.ensures.1 c.value.ensures.0 c.value-2.ensures.0 c.certificate.ensures c.in-Err.is c.clear-in-Err.ensures

pub overflow_add-pairs : goal.overflow_add-pairs
overflow_add-pairs t c = omega (arith, few_pairs c.requires c.if-left-eq0.false c.value.ensures.1 c.value.ensures.0 c.value-2.ensures.0 c.certificate.ensures c.in-Ok.is)

pub descend-requires : goal.descend-requires
descend-requires t c = (
  omega arith,
  descending c.requires c.if-left-eq0.false c.value.ensures.1 c.value.ensures.0 c.value-2.ensures.0 c.certificate.ensures c.in-Ok.is c.clear_rest.ensures c.below-next.ensures c.value-2.ensures.1 (λ few. omega (arith, c.requires.counted)),
)

pub returns : goal.returns
returns t c = descend_on c.requires c.if-left-eq0.false c.value.ensures.1 c.value.ensures.0 c.value-2.ensures.0 c.certificate.ensures c.in-Ok.is c.clear_rest.ensures c.below-next.ensures c.value-2.ensures.1 c.descend.ensures
