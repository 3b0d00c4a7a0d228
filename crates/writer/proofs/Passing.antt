-- The rows of a table from the last to the first: what both loops of `families` hold. Assumes nothing.
--     passed              the families of the rows from row k on.       passed_end, passed_turn, passed_all     of none, of one more, of all
--     row_own             what a row of the table lists.       all_few      how many octets all families have
--     Passed              the open list is that of the rows from row k on.       pass_start, pass_turn      before the loop, and after a turn
--     pass_opened, pass-heads, pass-room      what the calls ask of it
use mathlib.Core.Path.{◌≡◌, refl, sym, ap, ◌∙◌}
use mathlib.Core.List.{List, [], ◌∷◌, ◌++◌}
use mathlib.Core.Bool.{Bool, true, false}
use mathlib.Core.Logic.{◌⊎◌, inl, inr}
use Prim.Native.Nat.{ℕ, zero, suc, ◌+◌, ◌-◌, ◌*◌, ◌^◌, ◌≤◌, ◌<◌}
use native.Mathlib.Nat.{sub-zero, le_refl}
use native.Mathlib.Numerals.{add-one}
use native.Mathlib.Omega.{arith}
use lib.ListN.{length, drop, length-append}
use lib.Dec.{eqb}
use borrow.Author.Tests.{eqb-false}
use Rattle.std.specs.Prelude.{Option, None}
use Rattle.number.specs.Tests.{pick}
use Rattle.number.specs.Halves.{bits}
use Rattle.number.specs.declared.halves.Width.TheVariants.{Bits32}
use Rattle.number.proofs.Picks.{below}
use Rattle.table.specs.Sizes.{row_numbers}
use Rattle.table.specs.Spaces.{mixed_kind, ip_kind, as_kind, between, kind_of, width_of}
use Rattle.table.specs.Rows.{Row, seen, in_halves, room, row_at, rows_of}
use Rattle.table.specs.Tables.{Sound, lists, inherits, Tidy, Fitting, Each}
use Rattle.table.specs.declared.rows.Row as code
use Rattle.table.proofs.Columns.{row_code}
use Rattle.table.proofs.Listing.{rows_more}
use Rattle.table.proofs.laws.Spaces.{kind_as}
use Rattle.table.proofs.laws.Tables.{table_true, first_sound, without}
use Rattle.values.specs.Encode.{grouped}
use Rattle.writer.specs.Families.{Table, Own, Opened, size_in, open_heads, closing, own, onward, families}
use Rattle.writer.specs.declared.families.Open.{Open}
use Rattle.writer.specs.Writer.{families_most, row_most}
use Rattle.writer.proofs.laws.Families.{Families, groups, open_of, tail, onto, Owned, no_first, size_tail, open_own, split, owned_turn, tail_turn, open_turn, own_few, groups_more, groups_few}

-- the rows from row k on
from : List ℕ → ℕ → List Row
from t k = rows_of (room t - k) (drop (row_numbers * k) t)

-- they begin with row k
from_turn : (t : List ℕ) (k : ℕ) → k < room t → from t k ≡ row_at t k ∷ from t (k + 1)
unfolding from
from_turn t k h = let e : room t - k ≡ suc (room t - (k + 1)) = omega arith in rw (e, rows_more t k (room t - (k + 1)) h)

-- there are none from the last on
from_end : (t : List ℕ) (k : ℕ) → room t ≤ k → from t k ≡ []
unfolding from rows_of
from_end t k h = let e : room t - k ≡ 0 = omega arith in rw e

-- from the first on there are all
from_all : (t : List ℕ) → from t 0 ≡ rows_of (room t) t
unfolding from
from_all t = rw sub-zero

-- what all rows are, those from row k on are
record Fine (kind : ℕ) (rows : List Row) : Type 0 where
  tidy : Tidy rows
  fitting : Each (Fitting kind) rows

-- the first and the others
fine_first : {kind : ℕ} {r : Row} {rs : List Row} → Fine kind (r ∷ rs) → Fitting kind r × Sound r
fine_first f = (first f.fitting, first_sound f.tidy)
  where
    first : {kind : ℕ} {r : Row} {rs : List Row} → Each (Fitting kind) (r ∷ rs) → Fitting kind r
    first (Each.more p e) = p

fine_rest : {kind : ℕ} {r : Row} {rs : List Row} → Fine kind (r ∷ rs) → Fine kind rs
fine_rest f = record { tidy = without f.tidy; fitting = rest f.fitting }
  where
    rest : {kind : ℕ} {r : Row} {rs : List Row} → Each (Fitting kind) (r ∷ rs) → Each (Fitting kind) rs
    rest (Each.more p e) = e

-- a row of a table of one kind is of the kind
row_fine : (kind : ℕ) (r : Row) → (kind ≡ mixed_kind → ⊥) → kind ≤ as_kind → Fitting kind r → Sound r → Own kind r
row_fine kind r one known f s = record { own = same f.own; lists = λ n. record { order = order s n; fits = width (eqb kind ip_kind) refl } }
  where
    same : (kind ≡ mixed_kind) ⊎ (kind ≡ kind_of r.space) → kind_of r.space ≡ kind
    same (inl e) = absurd (one e)
    same (inr e) = sym e

    order : Sound r → (r.inherit ≡ 1 → ⊥) → r.low ≤ r.high
    order (lists e l) n = l
    order (inherits e l h) n = absurd (n e)

    narrow : (r.space ≡ 4096) ⊎ (r.space ≡ 5120) → width_of r.space ≡ Bits32
    narrow (inl e) = unfold width_of between in rw e
    narrow (inr e) = unfold width_of between in rw e

    width : (d : Bool) → eqb kind ip_kind ≡ d → r.high < 2 ^ pick d (bits (width_of r.space)) 32
    width true e = f.fits
    width false e =
        let q : kind ≡ as_kind = omega (arith, one, eqb-false kind ip_kind e) in
        rw (narrow ((kind_as r.space).0 (same f.own ∙ q))) at f.fits

-- THE FAMILIES OF THE ROWS FROM ROW k ON
pub passed : List ℕ → ℕ → Families
passed t k = grouped (from t k)

passed_end : (t : List ℕ) (k : ℕ) → room t ≤ k → passed t k ≡ []
unfolding passed
passed_end t k h = rw (from_end t k h)

passed_turn : (t : List ℕ) (k : ℕ) → k < room t → passed t k ≡ onto (row_at t k) (passed t (k + 1))
unfolding passed onto
passed_turn t k h = rw (from_turn t k h)

passed_all : (kind : ℕ) (t : List ℕ) → families kind t ≡ groups kind (passed t 0)
unfolding passed families
passed_all kind t = rw (from_all t)

-- in a table of one kind
module _ {kind : ℕ} {t : List ℕ} (b : Table kind t) where
  -- the rows from row k on are fine
  fine : (k : ℕ) → k ≤ room t → Fine kind (from t k)
  fine zero h = let q = table_true kind t b.table in rw (from_all t) (record { tidy = q.tidy; fitting = q.fitting })
  fine (suc k) h =
      let l : k < room t = omega arith in
      let q : Fine kind (row_at t k ∷ from t (k + 1)) = rw (from_turn t k l) at (fine k (omega arith)) in
      rw add-one at (fine_rest q)

  -- and row k is
  row_at_lem : (k : ℕ) → k < room t → Own kind (row_at t k)
  row_at_lem k h =
      let q : Fine kind (row_at t k ∷ from t (k + 1)) = rw (from_turn t k h) at (fine k (omega arith)) in
      row_fine kind (row_at t k) b.one (table_true kind t b.table).known (fine_first q).0 (fine_first q).1

  -- the first family is of the kind
  owned : (k : ℕ) → Owned kind (passed t k)
  owned k = go (below k (room t))
    where
      go : (k < room t) ⊎ (room t ≤ k) → Owned kind (passed t k)
      go (inl h) = rw (passed_turn t k h) (owned_turn kind (row_at t k) (row_at_lem k h).own (passed t (k + 1)))
      go (inr h) = rw (passed_end t k h) no_first

  -- the families of the rows from row k on are no longer than those of all rows
  part_of : (k : ℕ) → k ≤ room t → length (groups kind (passed t k)) ≤ length (families kind t)
  part_of zero h = rw (passed_all kind t) (le_refl _)
  part_of (suc k) h =
      let l : k < room t = omega arith in
      let m = groups_more kind (row_at t k) (row_at_lem k l) (passed t (k + 1)) (owned (k + 1)) in
      let n = rw (passed_turn t k l) at (part_of k (omega arith)) in
      rw (← add-one k) (omega (arith, m, n))

  -- 53 octets for each row
  row_few : (m k : ℕ) → k + m ≡ room t → length (groups kind (passed t k)) ≤ 53 * m
  row_few zero k e = rw (passed_end t k (omega arith)) (omega arith)
  row_few (suc m) k e =
      let l : k < room t = omega arith in
      rw (passed_turn t k l) (omega (arith, row_few m (k + 1) (omega arith), groups_few kind (row_at t k) (row_at_lem k l) (passed t (k + 1)) (owned (k + 1))))

  -- HOW MANY OCTETS ALL FAMILIES HAVE
  pub all_few : length (families kind t) ≤ families_most
  all_few = rw (passed_all kind t) (omega (arith, row_few (room t) 0 (omega arith), (table_true kind t b.table).few))

  -- and what is behind the heads of the open list
  pub tail_few : (k : ℕ) → k ≤ room t → (length (open_heads kind (open_of kind (passed t k))) + length (tail kind (passed t k)) ≤ length (families kind t)) × (length (tail kind (passed t k)) ≤ families_most)
  tail_few k h =
      let fs = passed t k in
      omega (arith, rw (split kind fs (owned k), length-append (open_heads kind (open_of kind fs)) (tail kind fs)) at (part_of k h), all_few)

-- THE OPEN LIST OF THE ROWS FROM ROW k ON
pub record Passed (kind : ℕ) (t : List ℕ) (k : ℕ) (list : Option Open) : Type 0 where
  pub upto : k ≤ room t
  pub same : list ≡ open_of kind (passed t k)
  pub small : size_in list ≤ families_most

-- no row was passed
pub pass_start : (kind : ℕ) (t : List ℕ) → Passed kind t (room t) None
unfolding open_of
pass_start kind t = record { upto = omega arith; same = rw (passed_end t (room t) (omega arith)); small = omega arith }

-- nothing is behind its heads
pub start_tail : (kind : ℕ) (t : List ℕ) → tail kind (passed t (room t)) ≡ []
unfolding tail
start_tail kind t = rw (passed_end t (room t) (omega arith))

module _ {kind : ℕ} {t : List ℕ} (b : Table kind t) {k : ℕ} {list : Option Open} (p : Passed kind t k list) where
  -- what `close` asks of it
  pub pass_opened : Opened kind list
  pass_opened = record { own = rw (← p.same) at (open_own kind (passed t k) (owned b k)); few = omega (arith, p.small) }

  -- all rows were passed: its heads and what is behind them are all families
  pub pass_end : k ≤ 0 → families kind t ≡ open_heads kind list ++ tail kind (passed t k)
  pass_end h =
      let e : k ≡ 0 = omega arith in
      rw (passed_all kind t, p.same, e) (split kind (passed t 0) (owned b 0))

  module _ {row : code.Row} (h : 0 < k) (e : row ≡ in_halves (row_at t (k - 1))) where
    -- the row is the one before
    row_seen : row_at t (k - 1) ≡ seen row
    row_seen = sym (ap (λ (r : code.Row). seen r) e ∙ row_code (row_at t (k - 1)))

    row_own : Own kind (row_at t (k - 1))
    row_own = row_at_lem b (k - 1) (omega (arith, p.upto))

    turn_is : passed t (k - 1) ≡ onto (row_at t (k - 1)) (passed t k)
    turn_is = let q : k - 1 + 1 ≡ k = omega arith in rw q at (passed_turn t (k - 1) (omega (arith, p.upto)))

    -- what is known of it
    pub pass_own : Own kind (seen row)
    pass_own = rw row_seen at row_own

    pub pass_own_few : length (own kind (seen row)) ≤ row_most
    pass_own_few = own_few kind (seen row) pass_own

    -- it comes with its own octets, and the heads behind it
    pub tail_is : tail kind (passed t (k - 1)) ≡ own kind (seen row) ++ (closing kind list (seen row) ++ tail kind (passed t k))
    tail_is = rw (turn_is, p.same, ← row_seen) (tail_turn kind (row_at t (k - 1)) row_own.own (passed t k) (owned b k))

    -- for which there is room
    pub tail_fits : length (own kind (seen row)) + length (closing kind list (seen row)) + length (tail kind (passed t k)) ≤ length (families kind t)
    tail_fits =
        let s = own kind (seen row) in
        let u = closing kind list (seen row) in
        let v = tail kind (passed t k) in
        omega (arith, tail_few b (k - 1) (omega (arith, p.upto)), ap length tail_is, length-append s (u ++ v), length-append u v)

    -- the open list after it
    pub pass_turn : {list' : Option Open} (n : ℕ) → n ≡ length (own kind (seen row)) → list' ≡ onward list (seen row) n → Passed kind t (k - 1) list'
    pass_turn {list'} n q f = record { upto = omega (arith, p.upto); same = s; small = omega (arith, ap size_in s, size_tail kind (passed t (k - 1)), tail_few b (k - 1) (omega (arith, p.upto))) }
      where
        s : list' ≡ open_of kind (passed t (k - 1))
        s = f ∙ rw (q, turn_is, p.same, ← row_seen) (sym (open_turn kind (row_at t (k - 1)) row_own.own (passed t k)))
