-- Octets written in front of others, and the loop of `Backwards::families`. Assumes nothing.
--     upto_none, upto_on        nothing, and one part in front of another
--     Placed      the octets behind the heads of the open list are written.       place_start, place_turn, place_end       before the loop, after a row, after the loop
use mathlib.Core.Path.{◌≡◌, sym, ap, ◌∙◌}
use mathlib.Core.List.{List, [], ◌++◌}
use Prim.Native.Nat.{ℕ, ◌+◌, ◌-◌, ◌≤◌, ◌<◌}
use native.Mathlib.Nat.{add-zero}
use native.Mathlib.Omega.{arith}
use lib.ListN.{length, length-append}
use Rattle.std.specs.Prelude.{Option, None}
use Rattle.table.specs.Rows.{seen, in_halves, room, row_at}
use Rattle.table.specs.declared.rows.Row as code
use Rattle.der.proofs.laws.Writing.{length-written, written_none, written_before}
use Rattle.writer.specs.Families.{Table, Upto, size_in, open_heads, closing, own, onward, families}
use Rattle.writer.specs.declared.families.Open.{Open}
use Rattle.writer.specs.Writer.{choice_most}
use Rattle.writer.proofs.laws.Families.{tail}
use Rattle.writer.proofs.Passing.{passed, Passed, pass_start, start_tail, pass_end, pass_own_few, tail_is, tail_fits, pass_turn}

-- WRITTEN UP TO A PLACE

-- nothing
pub upto_none : (out : List ℕ) (end : ℕ) → end ≤ length out → Upto out end [] end out
upto_none out end h = record { place = add-zero end; done = sym (written_none out end h) }

module _ {out left : List ℕ} {end r : ℕ} {u : List ℕ} (a : Upto out end u r left) where
  -- a run keeps its length
  pub upto-length : length left ≡ length out
  upto-length = ap length a.done ∙ length-written out r u

  -- the one part, and then another in front of it
  pub upto_on : {s left' : List ℕ} {r' : ℕ} → end ≤ length out → Upto left r s r' left' → Upto out end (s ++ u) r' left'
  upto_on {s} {left'} {r'} h c =
      let p = a.place in
      let q = c.place in
      record {
        place = omega (arith, length-append s u);
        done = c.done ∙ rw (a.done, ← q) (written_before out r' s u (omega arith));
      }

-- THE LOOP

-- the rows from row k on have a list open, and what is behind its heads is written
pub record Placed (kind : ℕ) (t out : List ℕ) (end k : ℕ) (list : Option Open) (at : ℕ) (left : List ℕ) : Type 0 where
  pub rows : Passed kind t k list
  pub done : Upto out end (tail kind (passed t k)) at left

-- before it
pub place_start : (kind : ℕ) (t out : List ℕ) (end : ℕ) → end ≤ length out → Placed kind t out end (room t) None end out
place_start kind t out end h = record { rows = pass_start kind t; done = rw (start_tail kind t) (upto_none out end h) }

module _ {kind : ℕ} {t : List ℕ} (b : Table kind t) {out left : List ℕ} {end k at : ℕ} {list : Option Open} (f : length (families kind t) ≤ end) (z : end ≤ length out) (v : Placed kind t out end k list at left) where
  -- after it there is room for the last heads
  pub place_last : k ≤ 0 → length (open_heads kind list) ≤ at
  place_last h =
      let p = v.done.place in
      omega (arith, ap length (pass_end b v.rows h), length-append (open_heads kind list) (tail kind (passed t k)))

  -- and with them all families are written
  pub place_end : {r : ℕ} {left' : List ℕ} → k ≤ 0 → Upto left at (open_heads kind list) r left' → Upto out end (families kind t) r left'
  place_end h c = rw (pass_end b v.rows h) (upto_on v.done z c)

  -- a row
  module _ {row : code.Row} (h : 0 < k) (e : row ≡ in_halves (row_at t (k - 1))) where
    -- there is room for the heads behind it
    pub place_closing : length (closing kind list (seen row)) ≤ at
    place_closing =
        let p = v.done.place in
        omega (arith, tail_fits b v.rows h e)

    module _ {behind : ℕ} {left' : List ℕ} (c : Upto left at (closing kind list (seen row)) behind left') where
      -- and for its own octets
      pub place_own : length (own kind (seen row)) ≤ behind
      place_own =
          let p = v.done.place in
          let q = c.place in
          omega (arith, tail_fits b v.rows h e)

      module _ {start : ℕ} {left'' : List ℕ} (d : Upto left' behind (own kind (seen row)) start left'') where
        -- which are few
        pub place_few : size_in list + (behind - start) ≤ choice_most
        place_few =
            let p = d.place in
            omega (arith, v.rows.small, pass_own_few b v.rows h e)

        -- and so there is a row more
        pub place_turn : {list' : Option Open} → list' ≡ onward list (seen row) (behind - start) → Placed kind t out end (k - 1) list' start left''
        place_turn g =
            let p = c.place in
            let q = d.place in
            record {
              rows = pass_turn b v.rows h e (behind - start) (omega arith) g;
              done = rw (tail_is b v.rows h e) (upto_on (upto_on v.done z c) z d);
            }
