-- What the functions of `elements` answer and leave of the table, and the loop of `read`. Assumes nothing.
--     an_as       `element`
--     least_first, least_later        `early`
--     Reading, reading_start, reading_bad, reading_early, reading_full, reading_turn, reading_end      the invariant of `read`, and its places
use mathlib.Core.Path.{◌≡◌, refl, sym, ap, ◌∙◌}
use mathlib.Core.List.{List, [], ◌∷◌, ◌++◌}
use mathlib.Core.Bool.{Bool, true, false, not}
use Prim.Native.Nat.{ℕ, ◌+◌, ◌-◌, ◌≤◌, ◌<◌}
use native.Mathlib.Omega.{arith}
use lib.ListN.{length, take, drop, length-drop, length-append}
use lib.Dec.{ltb}
use borrow.Author.Tests.{ltb-true, ltb-false, le-ltb, lt-ltb, le-leb, lt-leb, eq-eqb, ne_eqb}
use Rattle.number.specs.Halves.{whole}
use Rattle.number.specs.declared.halves.Halves.{Halves}
use Rattle.number.specs.declared.refusal.Refusal.TheVariants as refusal
use Rattle.number.proofs.Picks.{rest_of}
use Rattle.table.specs.Sizes.{max_rows}
use Rattle.table.specs.Rows.{Row, seen, with_row, with_rows}
use Rattle.table.specs.declared.rows.Row as code
use Rattle.table.proofs.laws.Rows.{with_rows_snoc}
use Rattle.der.specs.Walk.{got, no}
use Rattle.der.specs.Parts.{admitted}
use Rattle.der.proofs.Held.{Held, held_start, held_end, held_exit, held_turn}
use Rattle.values.specs.Faults.{Fault, at, later, Read, Taken}
use Rattle.values.specs.Limits.{as_numbers}
use Rattle.values.specs.Spaces.{space_number}
use Rattle.values.specs.Ids.{id_at}
use Rattle.values.specs.Elements.{element_at, Place, least_at, admit_row, element_step, elements_of}
use Rattle.values.specs.Choices.{listed_row, listed_rows}
use Rattle.values.specs.Seen.{Reached, found_seen, FoundIn}
use Rattle.values.specs.Into.{Stands, Pushed, CountedInto}
use Rattle.number.specs.declared.refusal.Refusal.{Refusal}
use Rattle.values.specs.declared.elements.Space.{Space}
use Rattle.values.specs.declared.elements.Space.TheVariants as space
use Rattle.values.proofs.laws.Choices.{listed-length}
use Rattle.values.proofs.Wholes.{before}
use Rattle.values.proofs.Filling.{stands_still, stands_row, stands_on, pushed_not, pushed_is, counted_is, counted_not}
use Rattle.std.specs.Prelude.{Result, Ok, Err}

-- THE ORDER

-- any element may be first
pub least_first : (place last low : ℕ) → place ≡ 0 → false ≡ ltb low (least_at place last)
unfolding least_at
least_first place last low h = rw (eq-eqb place 0 h) (sym (le-ltb low 0 (omega arith)))

-- a later one is early if it is not past the number after last
pub least_later : (place last low : ℕ) (b : Bool) → (place ≡ 0 → ⊥) → b ≡ ltb (last + 1) low → not b ≡ ltb low (least_at place last)
unfolding least_at
least_later place last low b h e = rw (ne_eqb place 0 h) (go b (sym e))
  where
    go : (b : Bool) → ltb (last + 1) low ≡ b → not b ≡ ltb low (last + 2)
    go true q = let l = ltb-true (last + 1) low q in sym (le-ltb low (last + 2) (omega arith))
    go false q = let l = ltb-false (last + 1) low q in sym (lt-ltb low (last + 2) (omega arith))

-- ONE ELEMENT

-- what is said of an element of the space a
abbrev Said : Space → List ℕ → (Taken code.Row) → Type 0
Said a s r = (found_seen s r ≡ element_at a s) × FoundIn (space_number a) (length s) r

-- by what is said of it in each kind of list
module _ (a : Space) (s : List ℕ) (r : Taken code.Row) where
  -- an AS number
  pub an_as : a ≡ space.AsNumbers → found_seen s r ≡ id_at s → FoundIn as_numbers (length s) r → Said a s r
  an_as e p q = rw e (p, q)

-- ONE STEP

module _ (a : Space) (σ : Place) (s : List ℕ) (r : Taken code.Row) (e : found_seen s r ≡ element_at a s) where
  -- no element
  step_bad : (f : Fault) → r ≡ Err f → element_step a σ s ≡ no (later σ.0 f)
  unfolding element_step admitted
  step_bad f p = rw (← e, p)

  module _ (row : code.Row) (k : ℕ) (p : r ≡ Ok (row, k)) where
    -- one that is too early
    step_early : ltb (whole row.low) σ.1 ≡ true → element_step a σ s ≡ no (at σ.0 refusal.ElementOrder)
    unfolding element_step admitted admit_row
    step_early h = rw (← e, p, h)

    -- one for which there is no row
    step_full : ltb (whole row.low) σ.1 ≡ false → max_rows ≤ σ.2 → element_step a σ s ≡ no (at σ.0 refusal.RowCount)
    unfolding element_step admitted admit_row
    step_full h l = rw (← e, p, h, le-leb max_rows σ.2 l)

    -- one more row
    step_row : ltb (whole row.low) σ.1 ≡ false → σ.2 < max_rows → k ≤ length s
        → element_step a σ s ≡ got (whole row.low, whole row.high) (σ.0 + k, whole row.high + 2, σ.2 + 1) (drop k s)
    unfolding element_step admitted admit_row
    step_row h l m = rw (← e, p, h, lt-leb max_rows σ.2 l, before k s m)

-- what is said of its numbers
module _ (a m : ℕ) (r : Taken code.Row) (h : FoundIn a m r) where
  -- the place of a refusal
  found_fault : (f : Fault) → r ≡ Err f → f.place ≤ m
  found_fault f p = rw p at h

  -- the row and its end
  found_row : (row : code.Row) (k : ℕ) → r ≡ Ok (row, k) → (row.space ≡ a) × (row.inherit ≡ 0) × Reached m k
  found_row row k p = rw p at h

-- the row in whole numbers
found_seen_lem : (a m : ℕ) (r : Taken code.Row) (row : code.Row) (k : ℕ) → FoundIn a m r → r ≡ Ok (row, k) → seen row ≡ listed_row a (whole row.low, whole row.high)
found_seen_lem a m r row k h p = let (x, y, z) = found_row a m r h row k p in rw (x, y)

-- ROWS OF A LIST

-- one more
listed_snoc : (a : ℕ) (xs : List (ℕ × ℕ)) (x : ℕ × ℕ) → listed_rows a (xs ++ (x ∷ [])) ≡ listed_rows a xs ++ (listed_row a x ∷ [])
listed_snoc a [] x = refl
listed_snoc a (y ∷ xs) x = ap (λ (rs : List Row). listed_row a y ∷ rs) (listed_snoc a xs x)

-- THE LOOP

-- what is read of s: the definition's state with rest left, n rows so far, the last element ending with last
abbrev State : List ℕ → List ℕ → ℕ → Halves → Place
State s rest n last = (length s - length rest, least_at (length s - length rest) (whole last), n)

-- and what `read` promises
abbrev Promised : Space → List ℕ → ℕ → List ℕ → (Read ℕ) → List ℕ → Type 0
Promised a s count t₀ r t = CountedInto (listed_rows (space_number a)) (length s) count t₀ (elements_of a count s) r t

-- at the loop's head: the elements that were read, and their rows in the table
pub record Reading (a : Space) (s : List ℕ) (count : ℕ) (t₀ t rest : List ℕ) (n : ℕ) (last : Halves) : Type 0 where
  pub read : List (ℕ × ℕ)
  pub held : Held (element_step a) (elements_of a count s) (State s rest n last) read rest
  pub table : t ≡ with_rows t₀ count (listed_rows (space_number a) read)
  pub rows : n ≡ count + length read
  pub stands : Stands t₀ t
  pub inside : length rest ≤ length s

-- nothing is read yet
pub reading_start : (a : Space) (s : List ℕ) (count : ℕ) (t : List ℕ) (last : Halves) → Reading a s count t t s count last
unfolding elements_of least_at with_rows
reading_start a s count t last =
    let z : length s - length s ≡ 0 = omega arith in
    record {
      read = [];
      held = rw z (held_start (0, 0, count) s);
      table = refl;
      rows = omega arith;
      stands = stands_still t;
      inside = omega arith;
    }

-- less is left after k octets
shorter : (k : ℕ) (rest : List ℕ) → 0 < length rest → 0 < k → length (drop k rest) < length rest
shorter k rest a b = rw length-drop (omega arith)

module _ {a : Space} {s : List ℕ} {count : ℕ} {t₀ t rest : List ℕ} {n : ℕ} {last : Halves} (v : Reading a s count t₀ t rest n last) where
  -- nothing is left
  pub reading_end : length rest ≤ 0 → Promised a s count t₀ (Ok n) t
  reading_end h =
      let e : n ≡ count + length (listed_rows (space_number a) v.read) = v.rows ∙ rw (listed-length (space_number a) v.read) in
      counted_is (listed_rows (space_number a)) (length s) count t₀ t (elements_of a count s) (Ok n) v.read (held_end v.held h) (ap Ok e) v.table v.stands

  -- the step refuses
  refused : (f : Fault) → 0 < length rest → element_step a (State s rest n last) rest ≡ no f → f.place ≤ length s
      → Promised a s count t₀ (Err f) t
  refused f h e l = counted_not (listed_rows (space_number a)) (length s) count t₀ t (elements_of a count s) (Err f) f (held_exit v.held f h e) refl l v.stands

  module _ (r : Taken code.Row) (h : 0 < length rest) (e : found_seen rest r ≡ element_at a rest) (i : FoundIn (space_number a) (length rest) r) where
    -- at an element
    pub reading_bad : (f : Fault) → r ≡ Err f → Promised a s count t₀ (Err (later (length s - length rest) f)) t
    reading_bad f p = refused (later (length s - length rest) f) h (step_bad a _ rest r e f p) (omega (arith, v.inside, found_fault (space_number a) (length rest) r i f p))

    module _ (row : code.Row) (k : ℕ) (p : r ≡ Ok (row, k)) (b : Bool) (g : b ≡ ltb (whole row.low) (least_at (length s - length rest) (whole last))) where
      -- at its order
      pub reading_early : b ≡ true → Promised a s count t₀ (Err (at (length s - length rest) refusal.ElementOrder)) t
      reading_early q = refused (at (length s - length rest) refusal.ElementOrder) h (step_early a _ rest r e row k p (sym g ∙ q)) (omega arith)

      -- one row more
      turned : (t' : List ℕ) → b ≡ false → n < max_rows → t' ≡ with_row t n (seen row) → Reading a s count t₀ t' (take (length rest - k) (drop k rest)) (n + 1) row.high
      unfolding least_at
      turned t' q l u =
          let (x, y, z) = found_row (space_number a) (length rest) r i row k p in
          let w = shorter k rest h z.0 in
          let d = length-drop k rest in
          let m = v.inside in
          let place : length s - length (drop k rest) ≡ length s - length rest + k = omega arith in
          let more : length s - length rest + k ≡ 0 → ⊥ = omega arith in
          let c : n ≡ count + length (listed_rows (space_number a) v.read) = v.rows ∙ rw (listed-length (space_number a) v.read) in
          rw (rest_of k rest)
          (record {
            read = v.read ++ ((whole row.low, whole row.high) ∷ []);
            held = rw (place, ne_eqb (length s - length rest + k) 0 more) (held_turn v.held _ _ (drop k rest) h (step_row a _ rest r e row k p (sym g ∙ q) l z.1) w);
            table = u ∙ rw (found_seen_lem (space_number a) (length rest) r row k i p, v.table, listed_snoc, with_rows_snoc, ← c);
            rows = rw length-append (omega (arith, v.rows));
            stands = rw u (stands_on v.stands (stands_row t n (seen row) l));
            inside = omega arith;
          })

      module _ (q : b ≡ false) (n' : ℕ) (t' : List ℕ) (w : Result (Unit {0}) Refusal) (j : Pushed n t (seen row) w n' t') where
        -- at the rows
        pub reading_full : (f : Refusal) → w ≡ Err f → Promised a s count t₀ (Err (at (length s - length rest) f)) t'
        reading_full f o =
            let (l, x, y, z) = pushed_not n t (seen row) w n' t' j f o in
            rw (x, z) (refused (at (length s - length rest) refusal.RowCount) h (step_full a _ rest r e row k p (sym g ∙ q) l) (omega arith))

        -- the row is written
        pub reading_turn : (u : Unit {0}) → w ≡ Ok u → Reading a s count t₀ t' (take (length rest - k) (drop k rest)) n' row.high
        reading_turn u o =
            let (l, y, z) = pushed_is n t (seen row) w n' t' j u o in
            rw y (turned t' q l z)
