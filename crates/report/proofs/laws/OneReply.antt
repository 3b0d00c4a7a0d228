-- One reply: two replies that the promise of the report allows are equal, and so is what they leave in the lent octets (`Rattle.number.proofs.laws.OneReply`). Theorems. Assumes nothing.
use mathlib.Core.List.{List}
use Prim.Native.Nat.{ℕ}
use Rattle.number.proofs.laws.OneReply.{OneReply, one_reply}
use Rattle.report.proofs.reports.report.Reads as report

-- reports::report
pub report_one_reply : OneReply {B = ℕ × List ℕ} report.Post (λ κs r s. (r, s.1.1.0.now))
report_one_reply κs a r r' s s' p q = one_reply p q
