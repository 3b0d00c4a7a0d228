-- The text of a reply, as the code of `report` writes it. Theorems. Assumes nothing.
--     cut, ok_fits       the rows that are written, and that their text has room
--     report_none      there is no room for any report.        report_ok, report_no        the text of either reply
use mathlib.Core.Path.{◌≡◌, ap, ◌∙◌}
use mathlib.Core.List.{List}
use Prim.Native.Nat.{ℕ, min, ◌*◌, ◌≤◌, ◌<◌}
use native.Mathlib.Omega.{arith}
use lib.ListN.{length, take}
use borrow.Author.Tests.{lt-ltb, le-ltb}
use Rattle.std.specs.Prelude.{Ok, Err}
use Rattle.table.specs.Sizes.{row_numbers, max_rows}
use Rattle.table.specs.Rows.{room, rows_of, rows_in, rows_all}
use Rattle.table.proofs.laws.Rows.{rows_cut}
use Rattle.report.proofs.Lines.{ok_most}
use Rattle.values.specs.declared.readings.Refused.{Refused}
use Rattle.report.specs.Text.{ok_text, no_text}
use Rattle.report.specs.Reports.{put, text_of, room_for, report}
use Rattle.path.specs.Replies.{Reply}
use Rattle.path.specs.declared.replies.Accepted.{Accepted}

-- the rows that are written: no more than a certificate may have, and than the table has
module _ {most n : ℕ} (x : Accepted) (t out : List ℕ) (e : most ≡ min x.rows max_rows) (f : n ≡ min most (room t)) where
  cut : rows_all (take (row_numbers * n) t) ≡ rows_in (min x.rows max_rows) t
  cut = rows_cut n t (omega arith) ∙ ap (λ (i : ℕ). rows_of i t) (f ∙ ap (λ (i : ℕ). min i (room t)) e)

  -- they fit a run that has room for any report
  pub ok_fits : room_for ≤ length out → length (ok_text x.rows x.pairs (rows_all (take (row_numbers * n) t))) ≤ length out
  ok_fits h = rw cut (ok_most out x.rows x.pairs (min (min x.rows max_rows) (room t)) t (omega arith) h)

-- a report
module _ {z : ℕ × List ℕ} (r : Reply) (t out : List ℕ) where
  -- there is no room for any
  pub report_none : length out < room_for → z ≡ (0, out) → z ≡ report r t out
  unfolding report
  report_none h e = rw (lt-ltb (length out) room_for h) e

  -- there is
  text_is : room_for ≤ length out → z ≡ put out 0 (text_of r t) → z ≡ report r t out
  unfolding report
  text_is h e = rw (le-ltb (length out) room_for h) e

  -- of a path that is accepted
  pub report_ok : {most n : ℕ} {x : Accepted} → r ≡ Ok x → room_for ≤ length out → most ≡ min x.rows max_rows → n ≡ min most (room t) → z ≡ put out 0 (ok_text x.rows x.pairs (rows_all (take (row_numbers * n) t))) → z ≡ report r t out
  unfolding text_of
  report_ok {most} {n} {x} k h e f p = text_is h (p ∙ rw (k, cut x t out e f))

  -- of one that is refused
  pub report_no : {f : Refused} → r ≡ Err f → room_for ≤ length out → z ≡ put out 0 (no_text f) → z ≡ report r t out
  unfolding text_of
  report_no {f} k h p = text_is h (p ∙ rw k)
