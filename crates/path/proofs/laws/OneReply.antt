-- One reply: two replies that a function's promise allows are equal, and so is what they leave in the lent tables (`Rattle.number.proofs.laws.OneReply`). Theorems. Assumes nothing.
use mathlib.Core.List.{List}
use Prim.Native.Nat.{ℕ}
use Rattle.number.proofs.laws.OneReply.{OneReply, one_reply}
use Rattle.path.specs.Certificate as certificates
use Rattle.path.specs.Paths as paths
use Rattle.path.proofs.bundles.length.Reads as length
use Rattle.path.proofs.bundles.value_end.Reads as value_end
use Rattle.path.proofs.bundles.frame.Reads as frame
use Rattle.path.proofs.certificates.certificate.Reads as certificate
use Rattle.path.proofs.inherits.UninheritedPartialEq.eq.Reads as uninherited_eq
use Rattle.path.proofs.inherits.inherit.Reads as inherit
use Rattle.path.proofs.paths.check.Reads as check
use Rattle.path.proofs.replies.fault_in.Reads as fault_in
use Rattle.path.proofs.replies.named.Reads as named
use Rattle.path.proofs.walks.walk.Reads as walk
use Rattle.path.specs.Inherit.{Inherited}

-- bundles::length
pub length_one_reply : OneReply length.Post (λ κs r s. r)
length_one_reply κs a r r' s s' p q = one_reply p.0 q.0

-- bundles::value_end
pub value_end_one_reply : OneReply value_end.Post (λ κs r s. r)
value_end_one_reply κs a r r' s s' p q = one_reply p q

-- bundles::frame
pub frame_one_reply : OneReply frame.Post (λ κs r s. r)
frame_one_reply κs a r r' s s' p q = one_reply p q

-- certificates::certificate
pub certificate_one_reply : OneReply {B = certificates.Left} certificate.Post (λ κs r s. (r, s.1.1.0.now))
certificate_one_reply κs a r r' s s' p q = one_reply p q

-- inherits::inherit
pub inherit_one_reply : OneReply {B = Inherited × List ℕ} inherit.Post (λ κs r s. (r, s.0.now))
inherit_one_reply κs a r r' s s' p q = one_reply p q

-- inherits::Uninherited: `==`
pub uninherited_same_one_reply : OneReply uninherited_eq.Post (λ κs r s. r)
uninherited_same_one_reply κs a r r' s s' p q = one_reply p q

-- paths::check
pub check_one_reply : OneReply {B = paths.Left} check.Post (λ κs r s. (r, s.1.0.now, s.1.1.0.now))
check_one_reply κs a r r' s s' p q = one_reply p q

-- replies::fault_in
pub fault_in_one_reply : OneReply fault_in.Post (λ κs r s. r)
fault_in_one_reply κs a r r' s s' p q = one_reply p q

-- replies::named
pub named_one_reply : OneReply named.Post (λ κs r s. r)
named_one_reply κs a r r' s s' p q = one_reply p q

-- walks::walk
pub walk_one_reply : OneReply walk.Post (λ κs r s. r)
walk_one_reply κs a r r' s s' p q = one_reply p q
