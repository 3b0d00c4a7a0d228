-- The tags of X.690 that the readers allow.
use Rattle.std.specs.Prelude.{ℕ}

abbrev pub INTEGER : ℕ
INTEGER = 0x02

abbrev pub BIT_STRING : ℕ
BIT_STRING = 0x03

abbrev pub OCTET_STRING : ℕ
OCTET_STRING = 0x04

abbrev pub NULL : ℕ
NULL = 0x05

abbrev pub SEQUENCE : ℕ
SEQUENCE = 0x30
