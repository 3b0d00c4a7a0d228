-- One reply: two replies that the writer's promise allows are equal, and so is what they leave in the lent octets (`Rattle.number.proofs.laws.OneReply`). Theorems. Assumes nothing.
use Rattle.number.proofs.laws.OneReply.{OneReply, one_reply}
use Rattle.writer.specs.Writer.{Left}
use Rattle.writer.proofs.families.write.Reads as write

-- families::write
pub write_one_reply : OneReply {B = Left} write.Post (λ κs r s. (r, s.1.1.0.now))
write_one_reply κs a r r' s s' p q = one_reply p q
