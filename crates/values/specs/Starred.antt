-- Document 01's numbered examples that are starred, 1 to 11, as one table: octets, and what reading them gives. (proofs/laws/Starred: each holds.)
use Rattle.std.specs.Prelude.{ℕ, ◌+◌, ◌*◌, List, [], ◌∷◌, ◌++◌, eqb}
use Rattle.number.specs.Tests.{pick}
use Rattle.number.specs.declared.refusal.Refusal.TheVariants as refusal
use Rattle.table.specs.Spaces.{ip_kind, as_kind}
use Rattle.table.specs.Rows.{Row}
use Rattle.der.specs.Tags.{OCTET_STRING, SEQUENCE}
use Rattle.der.specs.Head.{element}
use Rattle.der.specs.Parts.{Contents, is, isnt}
use Rattle.values.specs.Limits.{ASNUM, as_numbers, routing_domains}
use Rattle.values.specs.Faults.{Fault, at}
use Rattle.values.specs.Choices.{listed_row, inherit_row}
use Rattle.values.specs.Tables.{ip_rows, as_rows}

-- an example: its number, the kind of its value, the octets, and the rows or the refusal with its place
pub record Example : Type 0 where
  pub number : ℕ
  pub kind : ℕ
  pub octets : List ℕ
  pub answer : Contents (List Row) Fault

-- what the readers say of its octets
abbrev pub reading : Example → Contents (List Row) Fault
reading e = pick (eqb e.kind ip_kind) (ip_rows e.octets) (as_rows 0 e.octets)

-- a value with one family of IPv4 addresses, whose elements start at octet 10; and one with AS numbers, whose elements start at octet 6
abbrev pub in_ipv4 : List ℕ → List ℕ
in_ipv4 s = element SEQUENCE (element SEQUENCE (element OCTET_STRING (0 ∷ 1 ∷ []) ++ element SEQUENCE s))

abbrev pub in_as_numbers : List ℕ → List ℕ
in_as_numbers s = element SEQUENCE (element ASNUM (element SEQUENCE s))

-- an IPv4 address
abbrev pub ipv4 : ℕ → ℕ → ℕ → ℕ → ℕ
ipv4 a b c d = ((a * 256 + b) * 256 + c) * 256 + d

abbrev pub ip : ℕ → List ℕ → Contents (List Row) Fault → Example
ip n s answer = record { number = n; kind = ip_kind; octets = s; answer = answer }

abbrev pub ids : ℕ → List ℕ → Contents (List Row) Fault → Example
ids n s answer = record { number = n; kind = as_kind; octets = s; answer = answer }

abbrev pub one : ℕ → ℕ → ℕ → Contents (List Row) Fault
one a low high = is (listed_row a (low, high) ∷ [])

unfoldable pub examples : List Example
examples =
    ip 1 (0x30 ∷ 0x35 ∷ 0x30 ∷ 0x2b ∷ 0x04 ∷ 0x03 ∷ 0x00 ∷ 0x01 ∷ 0x01 ∷ 0x30 ∷ 0x24 ∷ 0x03 ∷ 0x04 ∷ 0x04 ∷ 0x0a ∷ 0x00 ∷ 0x20 ∷ 0x03 ∷ 0x04 ∷ 0x00 ∷ 0x0a ∷ 0x00 ∷ 0x40 ∷ 0x03 ∷ 0x03 ∷ 0x00 ∷ 0x0a ∷ 0x01 ∷ 0x30 ∷ 0x0c ∷ 0x03 ∷ 0x04 ∷ 0x04 ∷ 0x0a ∷ 0x02 ∷ 0x30 ∷ 0x03 ∷ 0x04 ∷ 0x00 ∷ 0x0a ∷ 0x02 ∷ 0x40 ∷ 0x03 ∷ 0x03 ∷ 0x00 ∷ 0x0a ∷ 0x03 ∷ 0x30 ∷ 0x06 ∷ 0x04 ∷ 0x02 ∷ 0x00 ∷ 0x02 ∷ 0x05 ∷ 0x00 ∷ [])
    (is (listed_row 1026 (ipv4 10 0 32 0, ipv4 10 0 47 255) ∷ listed_row 1026 (ipv4 10 0 64 0, ipv4 10 0 64 255) ∷ listed_row 1026 (ipv4 10 1 0 0, ipv4 10 1 255 255) ∷ listed_row 1026 (ipv4 10 2 48 0, ipv4 10 2 64 255) ∷ listed_row 1026 (ipv4 10 3 0 0, ipv4 10 3 255 255) ∷ inherit_row 2048 ∷ [])) ∷
    ip 2 (in_ipv4 (0x03 ∷ 0x01 ∷ 0x00 ∷ [])) (one 1024 (ipv4 0 0 0 0) (ipv4 255 255 255 255)) ∷
    ip 3 (in_ipv4 (0x30 ∷ 0x09 ∷ 0x03 ∷ 0x03 ∷ 0x06 ∷ 0x81 ∷ 0x40 ∷ 0x03 ∷ 0x02 ∷ 0x04 ∷ 0x80 ∷ [])) (one 1024 (ipv4 129 64 0 0) (ipv4 143 255 255 255)) ∷
    ip 4 (in_ipv4 (0x03 ∷ 0x03 ∷ 0x04 ∷ 0x0a ∷ 0x41 ∷ [])) (isnt (at 10 refusal.Contents)) ∷
    ip 5 (in_ipv4 (0x30 ∷ 0x08 ∷ 0x03 ∷ 0x02 ∷ 0x01 ∷ 0x0a ∷ 0x03 ∷ 0x02 ∷ 0x00 ∷ 0x0a ∷ [])) (isnt (at 10 refusal.RangeForm)) ∷
    ip 6 (in_ipv4 (0x03 ∷ 0x03 ∷ 0x07 ∷ 0x0a ∷ 0x00 ∷ 0x03 ∷ 0x03 ∷ 0x07 ∷ 0x0a ∷ 0x80 ∷ [])) (isnt (at 15 refusal.ElementOrder)) ∷
    ip 7 (in_ipv4 (0x30 ∷ 0x08 ∷ 0x03 ∷ 0x02 ∷ 0x00 ∷ 0x81 ∷ 0x03 ∷ 0x02 ∷ 0x07 ∷ 0x80 ∷ [])) (one 1024 (ipv4 129 0 0 0) (ipv4 255 255 255 255)) ∷
    ip 7 (in_ipv4 (0x30 ∷ 0x07 ∷ 0x03 ∷ 0x02 ∷ 0x00 ∷ 0x81 ∷ 0x03 ∷ 0x01 ∷ 0x00 ∷ [])) (isnt (at 10 refusal.RangeForm)) ∷
    ip 8 (in_ipv4 (0x30 ∷ 0x0b ∷ 0x03 ∷ 0x05 ∷ 0x00 ∷ 0x00 ∷ 0x00 ∷ 0x00 ∷ 0x01 ∷ 0x03 ∷ 0x02 ∷ 0x06 ∷ 0x40 ∷ [])) (one 1024 (ipv4 0 0 0 1) (ipv4 127 255 255 255)) ∷
    ids 9 (0x30 ∷ 0x1a ∷ 0xa0 ∷ 0x14 ∷ 0x30 ∷ 0x12 ∷ 0x02 ∷ 0x02 ∷ 0x00 ∷ 0x87 ∷ 0x30 ∷ 0x08 ∷ 0x02 ∷ 0x02 ∷ 0x0b ∷ 0xb8 ∷ 0x02 ∷ 0x02 ∷ 0x0f ∷ 0x9f ∷ 0x02 ∷ 0x02 ∷ 0x13 ∷ 0x89 ∷ 0xa1 ∷ 0x02 ∷ 0x05 ∷ 0x00 ∷ [])
    (is (listed_row as_numbers (135, 135) ∷ listed_row as_numbers (3000, 3999) ∷ listed_row as_numbers (5001, 5001) ∷ inherit_row routing_domains ∷ [])) ∷
    ids 10 (in_as_numbers (0x02 ∷ 0x05 ∷ 0x00 ∷ 0xff ∷ 0xff ∷ 0xff ∷ 0xff ∷ [])) (one as_numbers 4294967295 4294967295) ∷
    ids 10 (in_as_numbers (0x02 ∷ 0x05 ∷ 0x01 ∷ 0x00 ∷ 0x00 ∷ 0x00 ∷ 0x00 ∷ [])) (isnt (at 6 refusal.Contents)) ∷
    ids 10 (in_as_numbers (0x02 ∷ 0x01 ∷ 0x87 ∷ [])) (isnt (at 6 refusal.Contents)) ∷
    ids 10 (in_as_numbers (0x02 ∷ 0x02 ∷ 0x00 ∷ 0x7f ∷ [])) (isnt (at 6 refusal.Contents)) ∷
    ip 11 (0x30 ∷ 0x00 ∷ []) (is []) ∷
    ids 11 (0x30 ∷ 0x00 ∷ []) (isnt (at 0 refusal.EmptyList)) ∷
    []
