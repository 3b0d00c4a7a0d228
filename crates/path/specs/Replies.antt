-- The reply of the path check. "A refusal names certificate, extension (0 none, 1 IP, 2 AS), place, space and value, and reports 0 rows."
use Rattle.std.specs.Prelude.{ℕ, Result, ltb}
use Rattle.number.specs.Tests.{pick}
use Rattle.number.specs.Halves.{halves}
use Rattle.number.specs.declared.refusal.Refusal.{Refusal}
use Rattle.values.specs.Limits.{ip_extension, as_extension, as_numbers}
use Rattle.values.specs.declared.readings.Refused.{Refused}
use Rattle.path.specs.declared.replies.Accepted.{Accepted}

-- "The reply carries the number of row pairs looked at"; "a refusal carries 0"
abbrev pub Reply : Type 0
Reply = Result Accepted Refused

-- "Space is set for 14 and 15, value for 15, else 0"
abbrev pub fault_at : Refusal → ℕ → ℕ → ℕ → ℕ → Refused
fault_at r certificate extension space value =
    record { refusal = r; certificate = certificate; extension = extension; place = 0; space = space; value = halves value }

-- of 14 and 15: "their extension follows from the space"
unfoldable pub extension_of : ℕ → ℕ
extension_of s = pick (ltb s as_numbers) ip_extension as_extension

-- what a reader refused, in the certificate that has the value
abbrev pub named : ℕ → Refused → Refused
named k f = record { refusal = f.refusal; certificate = k; extension = f.extension; place = f.place; space = f.space; value = f.value }
