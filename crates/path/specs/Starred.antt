-- Document 01's numbered examples that are starred, all twelve, as one table: 1 to 11 are values that are read, 12 is a bundle that is checked. (proofs/laws/Starred: each holds.)
use Rattle.std.specs.Prelude.{ℕ, List, [], ◌∷◌}
use Rattle.number.specs.declared.refusal.Refusal.TheVariants as refusal
use Rattle.table.specs.Rows.{Row}
use Rattle.der.specs.Parts.{Contents, isnt}
use Rattle.values.specs.Limits.{ip_extension}
use Rattle.values.specs.declared.faults.Fault.{Fault}
use Rattle.values.specs.Starred as values
use Rattle.path.specs.Replies.{fault_at}
use Rattle.path.specs.Certificate.{Step}
use Rattle.path.specs.Paths.{path_of}

-- a value with the answer of its reader, or a bundle with its number and the answer of the path check
pub data Example : Type 0 where
  value : values.Example → Example
  path : ℕ → List ℕ → Step (List Row × ℕ) → Example

pub data Answer : Type 0 where
  reads : Contents (List Row) Fault → Answer
  checks : Step (List Row × ℕ) → Answer

-- the document's answer
abbrev pub answer : Example → Answer
answer (value e) = reads e.answer
answer (path n b a) = checks a

-- and what the definitions say
abbrev pub said : Example → Answer
said (value e) = reads (values.reading e)
said (path n b a) = checks (path_of b)

-- "12: Issuer 10.0.0.0/9, own 10/8: 15, value 10.128.0.0": an anchor and a certificate below it, without AS values
unfoldable pub twelfth : Example
twelfth =
    path 12
    (0x52 ∷ 0x43 ∷ 0x48 ∷ 0x00 ∷ 0x01 ∷ 0x02 ∷
    0x00 ∷ 0x0f ∷ 0x30 ∷ 0x0d ∷ 0x30 ∷ 0x0b ∷ 0x04 ∷ 0x02 ∷ 0x00 ∷ 0x01 ∷ 0x30 ∷ 0x05 ∷ 0x03 ∷ 0x03 ∷ 0x07 ∷ 0x0a ∷ 0x00 ∷ 0x00 ∷ 0x00 ∷
    0x00 ∷ 0x0e ∷ 0x30 ∷ 0x0c ∷ 0x30 ∷ 0x0a ∷ 0x04 ∷ 0x02 ∷ 0x00 ∷ 0x01 ∷ 0x30 ∷ 0x04 ∷ 0x03 ∷ 0x02 ∷ 0x00 ∷ 0x0a ∷ 0x00 ∷ 0x00 ∷ [])
    (isnt (fault_at refusal.NotHeld 1 ip_extension 1024 (values.ipv4 10 128 0 0)))

-- all of them
abbrev pub after : List values.Example → List Example
after [] = twelfth ∷ []
after (e ∷ es) = value e ∷ after es

abbrev pub examples : List Example
examples = after values.examples
