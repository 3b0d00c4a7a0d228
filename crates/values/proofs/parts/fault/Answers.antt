-- `values::parts::fault` meets its contract. Assumes nothing.
use Rattle.std.proofs.Common.{rules}
use Rattle.values.proofs.Parting.{rows_octets, rows_pointer, none_octets, none_pointer, ip_octets, ip_pointer, as_octets, as_pointer}
use Rattle.values.proofs.parts.fault.Goals.{in_default-via-in-Err+else-has_octets, in_default-via-in_default}
use Rattle.values.proofs.parts.fault.Goals as goal

pub returns-then-fault-eq-IP_EXTENSION-clause-octets : goal.returns-then-fault-eq-IP_EXTENSION-clause-octets
returns-then-fault-eq-IP_EXTENSION-clause-octets c = search (ip_octets, rules)

pub returns-then-fault-eq-IP_EXTENSION-clause-pointer : goal.returns-then-fault-eq-IP_EXTENSION-clause-pointer
returns-then-fault-eq-IP_EXTENSION-clause-pointer c = search (ip_pointer, rules)

pub returns-else-fault-eq-IP_EXTENSION-clause-octets : goal.returns-else-fault-eq-IP_EXTENSION-clause-octets
returns-else-fault-eq-IP_EXTENSION-clause-octets c = search (as_octets, rules)

pub returns-else-fault-eq-IP_EXTENSION-clause-pointer : goal.returns-else-fault-eq-IP_EXTENSION-clause-pointer
returns-else-fault-eq-IP_EXTENSION-clause-pointer c = search (as_pointer, rules)

pub returns-in_default-clause-octets : goal.returns-in_default-clause-octets
returns-in_default-clause-octets c =
    elim c.in_default.branch [
      | in_default-via-in-Err+else-has_octets w ↦ search (none_octets, rules)
      | in_default-via-in_default w ↦ let e = w.in_default.is in search (rows_octets, rules)
    ]

pub returns-in_default-clause-pointer : goal.returns-in_default-clause-pointer
returns-in_default-clause-pointer c =
    elim c.in_default.branch [
      | in_default-via-in-Err+else-has_octets w ↦ search (none_pointer, rules)
      | in_default-via-in_default w ↦ let e = w.in_default.is in search (rows_pointer, rules)
    ]
