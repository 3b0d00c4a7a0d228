-- `path::certificates::lacked` meets its contract. Assumes nothing.
use borrow.Author.Rules.{rules}
use Rattle.path.proofs.Checking.{is_unmet, is_met, is_absent, lacked_ip, lacked_ids, lacked_none}
use Rattle.path.proofs.certificates.lacked.Goals as goal
use Rattle.path.proofs.certificates.lacked.Goals.{else-not-is_empty-via-then-not-is_empty+else-not-above as ip_met, else-not-is_empty-via-else-not-is_empty as no_ip}
use Rattle.path.proofs.certificates.lacked.Goals.{else-not-is_empty-2-via-then-not-is_empty-2+else-not-above-2 as ids_met, else-not-is_empty-2-via-else-not-is_empty-2 as no_ids}

pub returns-then-not-above : goal.returns-then-not-above
returns-then-not-above c = search (lacked_ip, is_unmet, rules)

pub returns-then-not-above-2 : goal.returns-then-not-above-2
returns-then-not-above-2 c =
    elim c.else-not-is_empty.branch [
      | ip_met w ↦ search (lacked_ids, is_unmet, is_met, rules)
      | no_ip w ↦ search (lacked_ids, is_unmet, is_absent, rules)
    ]

pub returns : goal.returns
returns c =
    elim c.else-not-is_empty.branch [
      | ip_met w ↦ elim c.else-not-is_empty-2.branch [
        | ids_met v ↦ search (lacked_none, is_met, rules)
        | no_ids v ↦ search (lacked_none, is_met, is_absent, rules)
      ]
      | no_ip w ↦ elim c.else-not-is_empty-2.branch [
        | ids_met v ↦ search (lacked_none, is_met, is_absent, rules)
        | no_ids v ↦ search (lacked_none, is_absent, rules)
      ]
    ]
