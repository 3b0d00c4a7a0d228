-- `values::parts::has_octets` meets its contract. Assumes nothing.
use mathlib.Core.Logic.{inl, inr}
use Rattle.values.specs.Parted.{has_octets}
use Rattle.values.proofs.Parting.{all_but}
use Rattle.values.proofs.parts.has_octets.Goals as goal
use Rattle.values.proofs.parts.has_octets.Goals.{in-RowCount, in_default}

pub returns : goal.returns
unfolding has_octets
returns c =
    elim c.match-matches.branch [
      | in-RowCount w ↦ elim w.in-RowCount.is [ inl e ↦ rw (w.matches-is, e) | inr (inl e) ↦ rw (w.matches-is, e) | inr (inr e) ↦ rw (w.matches-is, e) ]
      | in_default w ↦ rw w.matches-is (all_but c.args.refusal w.in_default.not-RowCount w.in_default.not-TableShort w.in_default.not-ValueSize)
    ]
