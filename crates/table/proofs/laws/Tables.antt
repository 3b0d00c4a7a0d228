-- The tests of specs/Tables and its statements agree, both ways. Assumes nothing.
--     proper_true, true_proper       a row by itself
--     follows_true, true_follows     a row after another
--     listed_true, true_listed       rows after a row
--     allowed_true, true_allowed     the rows of a table
--     table_true, true_table         a run of numbers that is a table
use mathlib.Core.Path.{◌≡◌, refl}
use mathlib.Core.List.{List, [], ◌∷◌}
use mathlib.Core.Bool.{Bool, true, false, false≢true}
use mathlib.Core.Logic.{◌⊎◌, inl, inr}
use Prim.Native.Nat.{ℕ, ◌+◌, ◌*◌, ◌%◌, ◌^◌, ◌≤◌, ◌<◌}
use native.Mathlib.Omega.{arith}
use lib.ListN.{length}
use lib.Pow.{pow_pos}
use lib.Dec.{ltb, leb, eqb}
use borrow.Author.Tests.{ltb-true, ltb-false, leb-true, eqb-true, eqb-false, lt-ltb, le-ltb, le-leb, eq-eqb, ne_eqb}
use Rattle.number.specs.Tests.{pick}
use Rattle.number.specs.Halves.{bits}
use Rattle.number.proofs.Picks.{pick_not, pick_is}
use Rattle.table.specs.Sizes.{row_numbers, max_rows, table_numbers}
use Rattle.table.specs.Spaces.{mixed_kind, as_kind, kind_of, width_of}
use Rattle.table.specs.Rows.{Row, nothing, room, rows_of}
use Rattle.table.specs.Tables.{Sound, lists, inherits, Follows, by_space, by_gap, Tidy, Fitting, Each, Allowed, fits, takes, marked, proper, follows, listed, allowed, is_table}
use Rattle.table.proofs.laws.Spaces.{space_above_zero}

-- A ROW BY ITSELF

-- which kinds a table takes
takes_true : (kind own : ℕ) → takes kind own ≡ true → (kind ≡ mixed_kind) ⊎ (kind ≡ own)
unfolding takes
takes_true kind own e = go (eqb kind mixed_kind) refl e
  where
    go : (b : Bool) → eqb kind mixed_kind ≡ b → pick b true (eqb kind own) ≡ true → (kind ≡ mixed_kind) ⊎ (kind ≡ own)
    go true f e = inl (eqb-true kind mixed_kind f)
    go false f e = inr (eqb-true kind own e)

true_takes : (kind own : ℕ) → (kind ≡ mixed_kind) ⊎ (kind ≡ own) → takes kind own ≡ true
unfolding takes
true_takes kind own o = go (eqb kind mixed_kind) refl o
  where
    go : (b : Bool) → eqb kind mixed_kind ≡ b → (kind ≡ mixed_kind) ⊎ (kind ≡ own) → pick b true (eqb kind own) ≡ true
    go true f o = refl
    go false f (inl e) = absurd (eqb-false kind mixed_kind f e)
    go false f (inr e) = eq-eqb kind own e

-- what the marks ask: the row is sound, and its high fits the space's width
marked_true : (r : Row) → marked r ≡ true → Sound r × (r.high < 2 ^ bits (width_of r.space))
unfolding marked
marked_true r e = go (eqb r.inherit 1) refl e
  where
    go : (b : Bool) → eqb r.inherit 1 ≡ b
        → pick b (pick (eqb r.low 0) (eqb r.high 0) false) (pick (eqb r.inherit 0) (pick (leb r.low r.high) (fits (width_of r.space) r.high) false) false) ≡ true
        → Sound r × (r.high < 2 ^ bits (width_of r.space))
    go true f e =
        let (l, h) = pick_is (eqb r.low 0) true (eqb r.high 0) false false≢true e in
        let z : r.high ≡ 0 = eqb-true r.high 0 h in
        (inherits (eqb-true r.inherit 1 f) (eqb-true r.low 0 l) z, rw z (pow_pos (bits (width_of r.space))))
    go false f e =
        let (i, k) = pick_is (eqb r.inherit 0) true (pick (leb r.low r.high) (fits (width_of r.space) r.high) false) false false≢true e in
        let (l, h) = pick_is (leb r.low r.high) true (fits (width_of r.space) r.high) false false≢true k in
        (lists (eqb-true r.inherit 0 i) (leb-true r.low r.high l), ltb-true r.high (2 ^ bits (width_of r.space)) h)

true_marked : (r : Row) → Sound r → r.high < 2 ^ bits (width_of r.space) → marked r ≡ true
unfolding marked
true_marked r (lists e l) f = rw (e, le-leb r.low r.high l, lt-ltb r.high (2 ^ bits (width_of r.space)) f)
true_marked r (inherits e l h) f = rw (e, l, h)

-- a row that may stand in a table of the kind
pub proper_true : (kind : ℕ) (r : Row) → proper kind r ≡ true → Fitting kind r × Sound r
unfolding proper
proper_true kind r e =
    let (k, o) = pick_not (eqb (kind_of r.space) 0) true false (pick (takes kind (kind_of r.space)) (marked r) false) false≢true e in
    let (t, m) = pick_is (takes kind (kind_of r.space)) true (marked r) false false≢true o in
    let (s, f) = marked_true r m in
    (record { known = eqb-false (kind_of r.space) 0 k; own = takes_true kind (kind_of r.space) t; fits = f }, s)

pub true_proper : (kind : ℕ) (r : Row) → Fitting kind r → Sound r → proper kind r ≡ true
unfolding proper
true_proper kind r f s =
    rw (ne_eqb (kind_of r.space) 0 f.known, true_takes kind (kind_of r.space) f.own, true_marked r s f.fits)

-- A ROW AFTER ANOTHER

-- a sound row that does not inherit lists
lists_was : (r : Row) → Sound r → (r.inherit ≡ 1 → ⊥) → r.inherit ≡ 0
lists_was r (lists e l) n = e
lists_was r (inherits e l h) n = absurd (n e)

-- a row that may come after another, where both are sound
pub follows_true : (a b : Row) → Sound a → Sound b → follows a b ≡ true → Follows a b
unfolding follows
follows_true a b s u e = go (eqb a.space b.space) refl e
  where
    go : (t : Bool) → eqb a.space b.space ≡ t
        → pick t (pick (eqb a.inherit 1) false (pick (eqb b.inherit 1) false (ltb (a.high + 1) b.low))) (ltb a.space b.space) ≡ true
        → Follows a b
    go true f e =
        let (i, k) = pick_not (eqb a.inherit 1) true false (pick (eqb b.inherit 1) false (ltb (a.high + 1) b.low)) false≢true e in
        let (j, g) = pick_not (eqb b.inherit 1) true false (ltb (a.high + 1) b.low) false≢true k in
        by_gap (eqb-true a.space b.space f) (lists_was a s (eqb-false a.inherit 1 i)) (lists_was b u (eqb-false b.inherit 1 j)) (ltb-true (a.high + 1) b.low g)
    go false f e = by_space (ltb-true a.space b.space e)

pub true_follows : (a b : Row) → Follows a b → follows a b ≡ true
unfolding follows
true_follows a b (by_space h) = rw (ne_eqb a.space b.space (omega arith), lt-ltb a.space b.space h)
true_follows a b (by_gap e i j g) = rw (eq-eqb a.space b.space e, i, j, lt-ltb (a.high + 1) b.low g)

-- ROWS AFTER A ROW

-- the rows with the one before them are tidy, and each fits
pub listed_true : (kind : ℕ) (a : Row) (rows : List Row) → Sound a → listed kind a rows ≡ true → Tidy (a ∷ rows) × Each (Fitting kind) rows
unfolding listed
listed_true kind a [] s e = (Tidy.one s, Each.none)
listed_true kind a (r ∷ rs) s e =
    let (p, k) = pick_is (proper kind r) true (pick (follows a r) (listed kind r rs) false) false false≢true e in
    let (f, l) = pick_is (follows a r) true (listed kind r rs) false false≢true k in
    let (g, u) = proper_true kind r p in
    let (t, h) = listed_true kind r rs u l in
    (Tidy.more s (follows_true a r s u f) t, Each.more g h)

-- the first of tidy rows is sound, and those after it are tidy
pub first_sound : {a : Row} {rows : List Row} → Tidy (a ∷ rows) → Sound a
first_sound (Tidy.one s) = s
first_sound (Tidy.more s f t) = s

pub without : {a : Row} {rows : List Row} → Tidy (a ∷ rows) → Tidy rows
without (Tidy.one s) = Tidy.none
without (Tidy.more s f t) = t

pub true_listed : (kind : ℕ) (a : Row) (rows : List Row) → Tidy (a ∷ rows) → Each (Fitting kind) rows → listed kind a rows ≡ true
unfolding listed
true_listed kind a [] t h = refl
true_listed kind a (r ∷ rs) (Tidy.more s f t) (Each.more g h) = rw (true_proper kind r g (first_sound t), true_follows a r f) (true_listed kind r rs t h)

-- the row of zeros, which no table has, may stand before any table's rows
nothing_sound : Sound nothing
nothing_sound = lists refl (omega arith)

after_nothing : (kind : ℕ) (rows : List Row) → Tidy rows → Each (Fitting kind) rows → Tidy (nothing ∷ rows)
after_nothing kind [] t h = Tidy.one nothing_sound
after_nothing kind (r ∷ rs) t (Each.more g h) = Tidy.more nothing_sound (later (omega (arith, space_above_zero r.space g.known))) t
  where
    later : 0 < r.space → Follows nothing r
    later p = by_space p

-- THE ROWS OF A TABLE

pub allowed_true : (kind : ℕ) (rows : List Row) → allowed kind rows ≡ true → Allowed kind rows
unfolding allowed
allowed_true kind rows e =
    let (f, k) = pick_not (ltb max_rows (length rows)) true false (pick (pick (eqb kind as_kind) (eqb (length rows) 0) false) false (listed kind nothing rows)) false≢true e in
    let (n, l) = pick_not (pick (eqb kind as_kind) (eqb (length rows) 0) false) true false (listed kind nothing rows) false≢true k in
    let (t, h) = listed_true kind nothing rows nothing_sound l in
    record { tidy = without t; fitting = h; few = ltb-false max_rows (length rows) f; some = λ q. some q n }
  where
    some : kind ≡ as_kind → pick (eqb kind as_kind) (eqb (length rows) 0) false ≡ false → 0 < length rows
    some q n = let m : eqb (length rows) 0 ≡ false = rw (eq-eqb kind as_kind q) at n in let z = eqb-false (length rows) 0 m in omega arith

pub true_allowed : (kind : ℕ) (rows : List Row) → Allowed kind rows → allowed kind rows ≡ true
unfolding allowed
true_allowed kind rows h =
    rw (le-ltb max_rows (length rows) h.few, some (eqb kind as_kind) refl)
    (true_listed kind nothing rows (after_nothing kind rows h.tidy h.fitting) h.fitting)
  where
    some : (b : Bool) → eqb kind as_kind ≡ b → pick b (eqb (length rows) 0) false ≡ false
    some true e = let p = h.some (eqb-true kind as_kind e) in ne_eqb (length rows) 0 (omega arith)
    some false e = refl

-- A RUN OF NUMBERS

-- "six numbers a row", "at most 512 rows", and the rows as "The table" says
pub record TableOf (kind : ℕ) (t : List ℕ) : Type 0 where
  pub known : kind ≤ as_kind
  pub full : length t ≡ row_numbers * room t
  pub few : room t ≤ max_rows
  pub tidy : Tidy (rows_of (room t) t)
  pub fitting : Each (Fitting kind) (rows_of (room t) t)

pub table_true : (kind : ℕ) (t : List ℕ) → is_table kind t ≡ true → TableOf kind t
unfolding is_table
table_true kind t e =
    let (k, a) = pick_not (ltb as_kind kind) true false _ false≢true e in
    let (f, b) = pick_is (eqb (length t % row_numbers) 0) true _ false false≢true a in
    let (n, l) = pick_not (ltb table_numbers (length t)) true false _ false≢true b in
    let (d, h) = listed_true kind nothing (rows_of (room t) t) nothing_sound l in
    let m : length t % row_numbers ≡ 0 = eqb-true (length t % row_numbers) 0 f in
    let q : length t ≤ table_numbers = ltb-false table_numbers (length t) n in
    record { known = ltb-false as_kind kind k; full = omega arith; few = omega arith; tidy = without d; fitting = h }

pub true_table : (kind : ℕ) (t : List ℕ) → TableOf kind t → is_table kind t ≡ true
unfolding is_table
true_table kind t h =
    let m : length t % row_numbers ≡ 0 = omega (arith, h.full) in
    let q : length t ≤ table_numbers = omega (arith, h.full, h.few) in
    rw (le-ltb as_kind kind h.known, eq-eqb (length t % row_numbers) 0 m, le-ltb table_numbers (length t) q)
    (true_listed kind nothing (rows_of (room t) t) (after_nothing kind (rows_of (room t) t) h.tidy h.fitting) h.fitting)
