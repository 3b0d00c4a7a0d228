-- The loop of `OneKind::size`: the octets behind the heads of the open list are counted. Assumes nothing.
use mathlib.Core.Path.{◌≡◌, sym, ap}
use mathlib.Core.List.{List, ◌++◌}
use Prim.Native.Nat.{ℕ, ◌+◌, ◌-◌, ◌≤◌, ◌<◌}
use native.Mathlib.Omega.{arith}
use lib.ListN.{length, length-append}
use Rattle.std.specs.Prelude.{Option, None}
use Rattle.table.specs.Rows.{seen, in_halves, room, row_at}
use Rattle.table.specs.declared.rows.Row as code
use Rattle.writer.specs.Families.{Table, open_heads, closing, own, onward, families}
use Rattle.writer.specs.declared.families.Open.{Open}
use Rattle.writer.specs.Writer.{families_most}
use Rattle.writer.proofs.laws.Families.{tail}
use Rattle.writer.proofs.Passing.{passed, all_few, Passed, pass_start, start_tail, pass_end, tail_is, tail_fits, pass_turn}

-- the rows from row k on have a list open, and `size` octets behind its heads
pub record Counted (kind : ℕ) (t : List ℕ) (k : ℕ) (list : Option Open) (size : ℕ) : Type 0 where
  pub rows : Passed kind t k list
  pub counted : size ≡ length (tail kind (passed t k))
  pub few : size ≤ families_most

-- before the loop
pub count_start : (kind : ℕ) (t : List ℕ) → Counted kind t (room t) None 0
count_start kind t = record { rows = pass_start kind t; counted = sym (ap length (start_tail kind t)); few = omega arith }

module _ {kind : ℕ} {t : List ℕ} (b : Table kind t) {k : ℕ} {list : Option Open} {size : ℕ} (v : Counted kind t k list size) where
  -- after it
  pub count_end : (m : ℕ) → k ≤ 0 → m ≡ length (open_heads kind list) → size + m ≡ length (families kind t)
  count_end m h e =
      omega (arith, v.counted, ap length (pass_end b v.rows h), length-append (open_heads kind list) (tail kind (passed t k)))

  pub count_few : (m : ℕ) → k ≤ 0 → m ≡ length (open_heads kind list) → size + m ≤ families_most
  count_few m h e = omega (arith, count_end m h e, all_few b)

  -- after a row
  pub count_turn : {row : code.Row} {list' : Option Open} (n m : ℕ) → 0 < k → row ≡ in_halves (row_at t (k - 1)) → n ≡ length (own kind (seen row)) → m ≡ length (closing kind list (seen row)) → list' ≡ onward list (seen row) n
      → Counted kind t (k - 1) list' (size + (m + n))
  count_turn {row} {list'} n m h e q r f =
      let u = closing kind list (seen row) in
      let w = tail kind (passed t k) in
      let c = v.counted in
      let i = tail_fits b v.rows h e in
      record {
        rows = pass_turn b v.rows h e n q f;
        counted = rw (tail_is b v.rows h e) (omega (arith, length-append (own kind (seen row)) (u ++ w), length-append u w));
        few = omega (arith, all_few b);
      }
