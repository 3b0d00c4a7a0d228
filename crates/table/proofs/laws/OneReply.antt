-- One reply: two replies that a function's promise allows are equal, and so is what they leave in a lent buffer (`Rattle.number.proofs.laws.OneReply`). Theorems. Assumes nothing.
use Rattle.table.proofs.rows.fewer.Reads as fewer
use Rattle.number.proofs.laws.OneReply.{OneReply, one_reply}
use Rattle.table.proofs.rows.count.Reads as count
use Rattle.table.proofs.rows.space.Reads as space
use Rattle.table.proofs.rows.inherit.Reads as inherit
use Rattle.table.proofs.rows.low.Reads as low
use Rattle.table.proofs.rows.high.Reads as high
use Rattle.table.proofs.rows.get.Reads as get
use Rattle.table.proofs.rows.put.Reads as put
use Rattle.table.proofs.rows.clear.Reads as clear
use Rattle.table.proofs.spaces.kind.Reads as kind
use Rattle.table.proofs.kinds.U64FromKind.from.Reads as number
use Rattle.table.proofs.kinds.KindTryFromU64.try_from.Reads as told
use Rattle.table.proofs.kinds.KindPartialEq.eq.Reads as kind_eq
use Rattle.table.proofs.kinds.UnknownKindPartialEq.eq.Reads as unknown_eq
use Rattle.table.proofs.rows.RowPartialEq.eq.Reads as row_eq
use Rattle.table.proofs.laws.Papers.{kind_apart}
use Rattle.table.proofs.spaces.width.Reads as width
use Rattle.table.proofs.tables.is_table.Reads as is_table

-- rows::fewer
pub fewer_one_reply : OneReply fewer.Post (λ κs r s. r)
fewer_one_reply κs a r r' s s' p q = one_reply p q

-- rows::count
pub count_one_reply : OneReply count.Post (λ κs r s. r)
count_one_reply κs a r r' s s' p q = one_reply p q

-- rows::space
pub space_one_reply : OneReply space.Post (λ κs r s. r)
space_one_reply κs a r r' s s' p q = one_reply p q

-- rows::inherit
pub inherit_one_reply : OneReply inherit.Post (λ κs r s. r)
inherit_one_reply κs a r r' s s' p q = one_reply p q

-- rows::low
pub low_one_reply : OneReply low.Post (λ κs r s. r)
low_one_reply κs a r r' s s' p q = one_reply p q

-- rows::high
pub high_one_reply : OneReply high.Post (λ κs r s. r)
high_one_reply κs a r r' s s' p q = one_reply p q

-- rows::get
pub get_one_reply : OneReply get.Post (λ κs r s. r)
get_one_reply κs a r r' s s' p q = one_reply p q

-- rows::put
pub put_one_reply : OneReply put.Post (λ κs r s. s.0.now)
put_one_reply κs a r r' s s' p q = one_reply p q

-- rows::clear
pub clear_one_reply : OneReply clear.Post (λ κs r s. s.0.now)
clear_one_reply κs a r r' s s' p q = one_reply p q

-- kinds::Kind: `u64::from`
pub number_one_reply : OneReply number.Post (λ κs r s. r)
number_one_reply κs a r r' s s' p q = one_reply p q

-- kinds::Kind: `Kind::try_from`
pub told_one_reply : OneReply told.Post (λ κs r s. r)
told_one_reply κs a r r' s s' p q = one_reply p q

-- rows::Row, kinds::Kind, kinds::UnknownKind: `==`
pub row_same_one_reply : OneReply row_eq.Post (λ κs r s. r)
row_same_one_reply κs a r r' s s' p q = one_reply p q

pub kind_same_one_reply : OneReply kind_eq.Post (λ κs r s. r)
kind_same_one_reply κs a r r' s s' p q = one_reply p q

pub unknown_same_one_reply : OneReply unknown_eq.Post (λ κs r s. r)
unknown_same_one_reply κs a r r' s s' p q = one_reply p q

-- spaces::kind
pub kind_one_reply : OneReply kind.Post (λ κs r s. r)
kind_one_reply κs a r r' s s' p q = kind_apart r r' (one_reply p q)

-- spaces::width
pub width_one_reply : OneReply width.Post (λ κs r s. r)
width_one_reply κs a r r' s s' p q = one_reply p q

-- tables::is_table
pub is_table_one_reply : OneReply is_table.Post (λ κs r s. r)
is_table_one_reply κs a r r' s s' p q = one_reply p q
