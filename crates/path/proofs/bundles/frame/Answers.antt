-- `path::bundles::frame` meets its contract. Assumes nothing.
use borrow.Author.Tests.{not-true, not-false}
use Rattle.number.proofs.Picks.{picks, via}
use Rattle.path.specs.Bundle.{frame_of}
use Rattle.path.proofs.Framed.{values_after, same_count}
use Rattle.path.proofs.bundles.frame.Goals as goal
use Rattle.path.proofs.bundles.frame.Goals.{then-bundle-lt-LEAST_OCTETS-via-then-bundle-lt-LEAST_OCTETS as short, then-bundle-lt-LEAST_OCTETS-via-else-bundle-lt-LEAST_OCTETS+then-bundle-gt-MOST_OCTETS as long}
use Rattle.path.proofs.bundles.frame.Goals.{then-count-eq0-via-then-count-eq0 as none, then-count-eq0-via-else-count-eq0+then-count-gt-MOST_CERTIFICATES as many}

pub returns-then-bundle-lt-LEAST_OCTETS : goal.returns-then-bundle-lt-LEAST_OCTETS
unfolding frame_of
returns-then-bundle-lt-LEAST_OCTETS c =
    elim c.then-bundle-lt-LEAST_OCTETS.branch [
      | short w ↦ search (via, picks) depth 12 fits 20000
      | long w ↦ search (via, picks) depth 12 fits 20000
    ]

pub returns-then-not-is_marked : goal.returns-then-not-is_marked
unfolding frame_of
returns-then-not-is_marked c = search (not-true, via, picks) depth 12 fits 20000

pub returns-then-count-eq0 : goal.returns-then-count-eq0
unfolding frame_of
returns-then-count-eq0 c =
    elim c.then-count-eq0.branch [
      | none w ↦ search (not-false, via, picks) depth 12 fits 20000
      | many w ↦ search (not-false, via, picks) depth 12 fits 20000
    ]

pub returns-then-not-is_values : goal.returns-then-not-is_values
unfolding frame_of
returns-then-not-is_values c = search (values_after, not-true, not-false, via, picks) depth 12 fits 20000

pub returns : goal.returns
unfolding frame_of
returns c = search (values_after, same_count, not-false, via, picks) depth 12 fits 20000
