-- A report ends within the run that it is written to. Theorem. Assumes nothing.
--     report_inside      the place after it, as `report` returns it, is in the run that is left
use mathlib.Core.Path.{◌≡◌, ap}
use mathlib.Core.List.{List}
use mathlib.Core.Logic.{◌⊎◌, inl, inr}
use Prim.Native.Nat.{ℕ, min, ◌≤◌, ◌<◌}
use native.Mathlib.Omega.{arith}
use lib.ListN.{length}
use borrow.Author.Tests.{lt-ltb, le-ltb}
use Rattle.number.proofs.Picks.{below}
use Rattle.table.specs.Sizes.{max_rows}
use Rattle.table.specs.Rows.{room}
use Rattle.der.proofs.laws.Writing.{length-written}
use Rattle.path.specs.Replies.{Reply}
use Rattle.std.specs.Prelude.{Ok, Err}
use Rattle.report.specs.Reports.{text_of, room_for, report}
use Rattle.report.proofs.Lines.{ok_most, no_most}

-- a run with room for any report has room for this one
text_fits : (r : Reply) (t out : List ℕ) → room_for ≤ length out → length (text_of r t) ≤ length out
unfolding text_of
text_fits (Ok done) t out h = ok_most out done.rows done.pairs (min (min done.rows max_rows) (room t)) t (omega arith) h
text_fits (Err f) t out h = no_most out f h

pub report_inside : {n : ℕ} {left : List ℕ} (r : Reply) (t out : List ℕ) → ◌≡◌ {A = ℕ × List ℕ} (n, left) (report r t out) → n ≤ length left
unfolding report
report_inside {n} {left} r t out e = go (below (length out) room_for)
  where
    -- the place, and how long the run that is left is
    ends : {p : ℕ × List ℕ} → ◌≡◌ {A = ℕ × List ℕ} (n, left) p → (n ≡ p.0) × (length left ≡ length p.1)
    ends q = (ap (λ (p : ℕ × List ℕ). p.0) q, ap (λ (p : ℕ × List ℕ). length p.1) q)

    go : (length out < room_for) ⊎ (room_for ≤ length out) → n ≤ length left
    go (inl h) = omega (arith, ends (rw (lt-ltb (length out) room_for h) at e))
    go (inr h) = omega (arith, ends (rw (le-ltb (length out) room_for h) at e), text_fits r t out h, length-written out 0 (text_of r t))
