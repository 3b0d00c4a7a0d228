-- `der::integers::is_padded` meets its contract. Assumes nothing.
use mathlib.Core.Path.{◌≡◌, sym, ◌∙◌}
use mathlib.Core.Bool.{true, false}
use borrow.Author.Tests.{lt-ltb, le-ltb, ltb-true}
use Prim.Native.Nat.{◌≤◌}
use native.Mathlib.Omega.{arith}
use lib.ListN.{length, get_or}
use lib.Dec.{eqb}
use Rattle.der.specs.Integer.{padded}
use Rattle.der.proofs.integers.is_padded.Goals as goal
use Rattle.der.proofs.integers.is_padded.Goals.{then-contents-gt1, else-contents-gt1}

pub returns-then-contents-eq0 : goal.returns-then-contents-eq0
unfolding padded
returns-then-contents-eq0 c =
    elim c.if-contents-gt1.branch [
      | then-contents-gt1 w ↦
          let e : eqb (get_or c.args.contents.now 0 0) 0 ≡ true = sym w.value-is ∙ c.if-contents-eq0.true in
          rw (lt-ltb 1 (length c.args.contents.now) w.if-contents-gt1.true, e)
      | else-contents-gt1 w ↦
          let e = ltb-true 1 (length c.args.contents.now) (sym w.value-is ∙ c.if-contents-eq0.true) in
          let f : length c.args.contents.now ≤ 1 = w.if-contents-gt1.false in
          absurd (omega arith)
    ]

pub returns-else-contents-eq0 : goal.returns-else-contents-eq0
unfolding padded
returns-else-contents-eq0 c =
    elim c.if-contents-gt1.branch [
      | then-contents-gt1 w ↦
          let e : eqb (get_or c.args.contents.now 0 0) 0 ≡ false = sym w.value-is ∙ c.if-contents-eq0.false in
          rw (lt-ltb 1 (length c.args.contents.now) w.if-contents-gt1.true, e) c.if-contents-eq0.false
      | else-contents-gt1 w ↦ rw (le-ltb 1 (length c.args.contents.now) w.if-contents-gt1.false) c.if-contents-eq0.false
    ]
