-- One reply: two replies that a function's promise allows are equal. Theorems. Assumes nothing.
--     OneReply         what that says of a promise, which is a function's own `Post`: over lifetimes κs, arguments a, a result r and what stands at exit s. What is compared, the result and the contents of the lent buffers that may be written, is told by a function of r and s
--     one_reply        the general law
--     NAME_one_reply   for each public function of this crate, and for each comparison of its types. `<` and `<=` are the library's functions, whose own promises these are, over any type that has an order
use mathlib.Core.Path.{◌≡◌, sym, ◌∙◌}
use denote.RattleType.{RattleType}
use denote.Param.Laws.{Laws}
use mir.Syntax.{Dict}
use Rattle.std.specs.declared.cmp.PartialEq as equality
use Rattle.std.specs.declared.cmp.PartialOrd as order
use Rattle.std.proofs.cmp.PartialOrd.lt.Reads as below
use Rattle.std.proofs.cmp.PartialOrd.le.Reads as at_most
use Rattle.number.proofs.address.from_halves.Reads as from_halves
use Rattle.number.proofs.address.spelled.Reads as spelled
use Rattle.number.proofs.address.to_halves.Reads as to_halves
use Rattle.number.proofs.address.AddressPartialEq.eq.Reads as address_eq
use Rattle.number.proofs.halves.Width.bits.Reads as bits
use Rattle.number.proofs.halves.WidthPartialEq.eq.Reads as width_eq
use Rattle.number.proofs.refusal.RefusalPartialEq.eq.Reads as refusal_eq
use Rattle.number.proofs.halves.U128FromHalves.from.Reads as wide
use Rattle.number.proofs.halves.HalvesPartialEq.eq.Reads as eq
use Rattle.number.proofs.halves.HalvesPartialOrd.partial_cmp.Reads as partial_cmp
use Rattle.number.proofs.halves.HalvesOrd.cmp.Reads as cmp
use Rattle.number.proofs.halves.HalvesFromU64.from.Reads as from
use Rattle.number.proofs.halves.next.Reads as next
use Rattle.number.proofs.halves.past.Reads as past
use Rattle.number.proofs.kept.zeros.Reads as zeros
use Rattle.number.proofs.kept.ones.Reads as ones
use Rattle.number.proofs.kept.zero_filled.Reads as zero_filled
use Rattle.number.proofs.kept.one_filled.Reads as one_filled
use Rattle.number.proofs.kept.kept_min.Reads as kept_min
use Rattle.number.proofs.kept.kept_max.Reads as kept_max
use Rattle.number.proofs.refusal.U64FromRefusal.from.Reads as number
use Rattle.number.proofs.shape.is_prefix.Reads as is_prefix
use Rattle.number.proofs.shape.tell.Reads as tell

-- two replies to the same arguments that the promise allows have the same result and leave the same
abbrev pub OneReply : {K B : Type 0} {A R S : K → Type 0} → ((κs : K) → A κs → R κs → S κs → Type 0) → ((κs : K) → R κs → S κs → B) → Type 0
OneReply {K} {B} {A} {R} {S} Post reply = (κs : K) (a : A κs) (r r' : R κs) (s s' : S κs) → Post κs a r s → Post κs a r' s' → reply κs r s ≡ reply κs r' s'

-- what a promise says to be one thing is one thing
pub one_reply : {A : Type 0} {x y z : A} → x ≡ z → y ≡ z → x ≡ y
one_reply p q = p ∙ sym q

-- address::from_halves
pub from_halves_one_reply : OneReply from_halves.Post (λ κs r s. r)
from_halves_one_reply κs a r r' s s' p q = one_reply p q

-- address::spelled
pub spelled_one_reply : OneReply spelled.Post (λ κs r s. r)
spelled_one_reply κs a r r' s s' p q = one_reply p q

-- address::to_halves
pub to_halves_one_reply : OneReply to_halves.Post (λ κs r s. r)
to_halves_one_reply κs a r r' s s' p q = one_reply p q

-- halves::Width::bits
pub bits_one_reply : OneReply bits.Post (λ κs r s. r)
bits_one_reply κs a r r' s s' p q = one_reply p q

-- halves::Halves: `u128::from`
pub wide_one_reply : OneReply wide.Post (λ κs r s. r)
wide_one_reply κs a r r' s s' p q = one_reply p.0 q.0

-- halves::Halves: `==`
pub same_one_reply : OneReply eq.Post (λ κs r s. r)
same_one_reply κs a r r' s s' p q = one_reply p q

-- the same of the address, the width and the refusal
pub address_same_one_reply : OneReply address_eq.Post (λ κs r s. r)
address_same_one_reply κs a r r' s s' p q = one_reply p q

pub width_same_one_reply : OneReply width_eq.Post (λ κs r s. r)
width_same_one_reply κs a r r' s s' p q = one_reply p q

pub refusal_same_one_reply : OneReply refusal_eq.Post (λ κs r s. r)
refusal_same_one_reply κs a r r' s s' p q = one_reply p q

-- `<` and `<=`, of `Halves` too: Orders says what they are there
module _ (T : RattleType) (laws : Laws T) (o : order.Ghosts T.Denot) (d : Dict) (e : equality.Ghosts T.Denot) (d' : Dict) where
  pub below_one_reply : OneReply (below.Post T laws o d e d') (λ κs r s. r)
  below_one_reply κs a r r' s s' p q = one_reply p q

  pub at_most_one_reply : OneReply (at_most.Post T laws o d e d') (λ κs r s. r)
  at_most_one_reply κs a r r' s s' p q = one_reply p q

-- halves::Halves: what `<` and `<=` are made of
pub partial_cmp_one_reply : OneReply partial_cmp.Post (λ κs r s. r)
partial_cmp_one_reply κs a r r' s s' p q = one_reply p q

pub cmp_one_reply : OneReply cmp.Post (λ κs r s. r)
cmp_one_reply κs a r r' s s' p q = one_reply p q

-- halves::Halves: `Halves::from`
pub from_one_reply : OneReply from.Post (λ κs r s. r)
from_one_reply κs a r r' s s' p q = one_reply p q

-- halves::next
pub next_one_reply : OneReply next.Post (λ κs r s. r)
next_one_reply κs a r r' s s' p q = one_reply p q

-- halves::past
pub past_one_reply : OneReply past.Post (λ κs r s. r)
past_one_reply κs a r r' s s' p q = one_reply p q

-- kept::zeros
pub zeros_one_reply : OneReply zeros.Post (λ κs r s. r)
zeros_one_reply κs a r r' s s' p q = one_reply p q

-- kept::ones
pub ones_one_reply : OneReply ones.Post (λ κs r s. r)
ones_one_reply κs a r r' s s' p q = one_reply p q

-- kept::zero_filled
pub zero_filled_one_reply : OneReply zero_filled.Post (λ κs r s. r)
zero_filled_one_reply κs a r r' s s' p q = one_reply p q

-- kept::one_filled
pub one_filled_one_reply : OneReply one_filled.Post (λ κs r s. r)
one_filled_one_reply κs a r r' s s' p q = one_reply p q

-- kept::kept_min
pub kept_min_one_reply : OneReply kept_min.Post (λ κs r s. r)
kept_min_one_reply κs a r r' s s' p q = one_reply p q

-- kept::kept_max
pub kept_max_one_reply : OneReply kept_max.Post (λ κs r s. r)
kept_max_one_reply κs a r r' s s' p q = one_reply p q

-- refusal::Refusal: `u64::from`
pub number_one_reply : OneReply number.Post (λ κs r s. r)
number_one_reply κs a r r' s s' p q = one_reply p q

-- shape::is_prefix
pub is_prefix_one_reply : OneReply is_prefix.Post (λ κs r s. r)
is_prefix_one_reply κs a r r' s s' p q = one_reply p q

-- shape::tell
pub tell_one_reply : OneReply tell.Post (λ κs r s. r)
tell_one_reply κs a r r' s s' p q = one_reply p q
