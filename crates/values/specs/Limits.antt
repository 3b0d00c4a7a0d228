-- Tags, spaces and sizes of RFC 3779 and document 01 by name.
use Rattle.std.specs.Prelude.{ℕ}
pub use Rattle.table.specs.Spaces.{as_numbers, routing_domains}

-- asnum and rdi of ASIdentifiers: [0] and [1], constructed (RFC 3779, section 3.2.3)
abbrev pub ASNUM : ℕ
ASNUM = 0xa0

abbrev pub RDI : ℕ
RDI = 0xa1

-- the two extensions by number
abbrev pub ip_extension : ℕ
ip_extension = 1

abbrev pub as_extension : ℕ
as_extension = 2

-- "extension value: 1 to 32,768 octets"
abbrev pub max_octets : ℕ
max_octets = 32768
