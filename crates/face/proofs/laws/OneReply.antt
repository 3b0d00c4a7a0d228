-- One reply: two replies that an export's promise allows are equal, and so is what they leave in the lent buffers (`Rattle.number.proofs.laws.OneReply`). Theorems. Assumes nothing.
use mathlib.Core.List.{List}
use Prim.Native.Nat.{ℕ}
use Rattle.number.proofs.laws.OneReply.{OneReply, one_reply}
use Rattle.face.proofs.rch_read_ip.Reads as read_ip
use Rattle.face.proofs.rch_read_as.Reads as read_as
use Rattle.face.proofs.rch_write.Reads as write
use Rattle.face.proofs.rch_path.Reads as path
use Rattle.face.proofs.rch_fault.Reads as fault

-- rch_read_ip
pub read_ip_one_reply : OneReply {B = ℕ × List ℕ × List ℕ} read_ip.Post (λ κs r s. (r, s.1.0.now, s.1.1.0.now))
read_ip_one_reply κs a r r' s s' p q = one_reply p q

-- rch_read_as
pub read_as_one_reply : OneReply {B = ℕ × List ℕ × List ℕ} read_as.Post (λ κs r s. (r, s.1.0.now, s.1.1.0.now))
read_as_one_reply κs a r r' s s' p q = one_reply p q

-- rch_write
pub write_one_reply : OneReply {B = ℕ × List ℕ × List ℕ} write.Post (λ κs r s. (r, s.1.1.0.now, s.1.1.1.0.now))
write_one_reply κs a r r' s s' p q = one_reply p q

-- rch_path
pub path_one_reply : OneReply {B = ℕ × (List ℕ × List ℕ) × List ℕ} path.Post (λ κs r s. (r, (s.1.0.now, s.1.1.0.now), s.1.1.1.0.now))
path_one_reply κs a r r' s s' p q = one_reply p q

-- rch_fault
pub fault_one_reply : OneReply {B = ℕ × List ℕ × List ℕ} fault.Post (λ κs r s. (r, s.1.1.0.now, s.1.1.1.0.now))
fault_one_reply κs a r r' s s' p q = one_reply p q
