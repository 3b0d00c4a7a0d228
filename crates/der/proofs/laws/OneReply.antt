-- One reply: two replies that a function's promise allows are equal, and so is what they leave in a lent buffer (`Rattle.number.proofs.laws.OneReply`). Theorems. Assumes nothing.
use Rattle.number.proofs.laws.OneReply.{OneReply, one_reply}
use Rattle.der.proofs.bits.read.Reads as bits_read
use Rattle.der.proofs.bits.octets.Reads as bits_octets
use Rattle.der.proofs.bits.put.Reads as bits_Put
use Rattle.der.proofs.heads.open.Reads as open_head
use Rattle.der.proofs.heads.head_size.Reads as head_size
use Rattle.der.proofs.heads.put_head.Reads as put_head
use Rattle.der.proofs.integers.BadIntegerPartialEq.eq.Reads as bad_eq
use Rattle.der.proofs.integers.read.Reads as integers_read
use Rattle.der.proofs.integers.octets.Reads as integers_octets
use Rattle.der.proofs.integers.put.Reads as integers_put
use Rattle.der.proofs.strings.null.Reads as null
use Rattle.der.proofs.strings.sized.Reads as sized
use Rattle.der.proofs.writing.put.Reads as writing_put
use Rattle.der.proofs.readers.element_at.Reads as element_at
use Rattle.der.proofs.readers.left_at.Reads as left_at
use Rattle.der.proofs.readers.outermost.Reads as outermost

-- bits::read
pub bits_read_one_reply : OneReply bits_read.Post (λ κs r s. r)
bits_read_one_reply κs a r r' s s' p q = one_reply p q

-- bits::octets
pub bits_octets_one_reply : OneReply bits_octets.Post (λ κs r s. r)
bits_octets_one_reply κs a r r' s s' p q = one_reply p q

-- bits::put
pub bits_put_one_reply : OneReply bits_Put.Post (λ κs r s. s.0.now)
bits_put_one_reply κs a r r' s s' p q = one_reply p q

-- heads::open
pub open_one_reply : OneReply open_head.Post (λ κs r s. r)
open_one_reply κs a r r' s s' p q = one_reply p q

-- heads::head_size
pub head_size_one_reply : OneReply head_size.Post (λ κs r s. r)
head_size_one_reply κs a r r' s s' p q = one_reply p q

-- heads::put_head
pub put_head_one_reply : OneReply put_head.Post (λ κs r s. s.0.now)
put_head_one_reply κs a r r' s s' p q = one_reply p q

-- integers::read
pub integers_read_one_reply : OneReply integers_read.Post (λ κs r s. r)
integers_read_one_reply κs a r r' s s' p q = one_reply p q

-- integers::BadInteger: `==`
pub bad_integer_same_one_reply : OneReply bad_eq.Post (λ κs r s. r)
bad_integer_same_one_reply κs a r r' s s' p q = one_reply p q

-- integers::octets
pub integers_octets_one_reply : OneReply integers_octets.Post (λ κs r s. r)
integers_octets_one_reply κs a r r' s s' p q = one_reply p q

-- integers::put
pub integers_put_one_reply : OneReply integers_put.Post (λ κs r s. s.0.now)
integers_put_one_reply κs a r r' s s' p q = one_reply p q

-- strings::null
pub null_one_reply : OneReply null.Post (λ κs r s. r)
null_one_reply κs a r r' s s' p q = one_reply p q

-- strings::sized
pub sized_one_reply : OneReply sized.Post (λ κs r s. r)
sized_one_reply κs a r r' s s' p q = one_reply p q

-- writing::put
pub writing_put_one_reply : OneReply writing_put.Post (λ κs r s. s.0.now)
writing_put_one_reply κs a r r' s s' p q = one_reply p q

-- readers::element_at
pub element_at_one_reply : OneReply element_at.Post (λ κs r s. r)
element_at_one_reply κs a r r' s s' p q = one_reply p q

-- readers::left_at
pub left_at_one_reply : OneReply left_at.Post (λ κs r s. r)
left_at_one_reply κs a r r' s s' p q = one_reply p q

-- readers::outermost
pub outermost_one_reply : OneReply outermost.Post (λ κs r s. r)
outermost_one_reply κs a r r' s s' p q = one_reply p q
