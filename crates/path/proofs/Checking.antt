-- What the steps of one certificate answer and leave, by what was found. Assumes nothing.
--     lacked_..               the exits of `lacked`
--     hold_..                 the exits of `hold`;   inherits_..   of `inherit`
--     read_again              rows that were read are replaced by those after inheritance
use mathlib.Core.Path.{◌≡◌, refl, sym, ap, ◌∙◌}
use mathlib.Core.List.{List}
use mathlib.Core.Bool.{Bool, true, false, not}
use Prim.Native.Nat.{ℕ, min, ◌≤◌, ◌<◌}
use native.Mathlib.Omega.{arith}
use lib.ListN.{length}
use lib.Dec.{ltb, eqb}
use borrow.Author.Tests.{lt-ltb, le-ltb, eq-eqb, ne_eqb, ltb-true, ltb-false, not-true, not-false}
use Rattle.std.specs.Prelude.{Ok, Err, Some, None}
use Rattle.number.specs.Tests.{pick}
use Rattle.number.specs.Halves.{halves}
use Rattle.number.specs.declared.halves.Halves.{Halves}
use Rattle.number.specs.declared.refusal.Refusal.{Refusal}
use Rattle.number.specs.declared.refusal.Refusal.TheVariants as refusal
use Rattle.table.specs.Sizes.{max_rows, table_numbers}
use Rattle.table.specs.Rows.{Row, room, rows_of, rows_in, with_rows}
use Rattle.table.proofs.laws.Rows.{length-with_rows, rows_written, with_rows_over, cleared_rows}
use Rattle.der.specs.Parts.{is, isnt}
use Rattle.values.specs.Limits.{ip_extension, as_extension}
use Rattle.values.specs.declared.readings.Refused.{Refused}
use Rattle.path.specs.Walk.{Result, covered, missing, walk, replied, walked_of}
use Rattle.path.specs.Inherit.{resolved, Spaces, all, lacks, lacking, filled_in, inherit, Inherited}
use Rattle.path.specs.Replies.{fault_at, extension_of, Reply}
use Rattle.path.specs.Certificate.{Above, Step, onward, carried, lacked, spaces_step, walk_step, hold_step, after_inheritance, after_presence, Left, seen_above, refused, left, zeroed, uninherited, held_by}
use Rattle.path.specs.declared.walks.Walked as walked
use Rattle.path.specs.declared.certificates.Above as code
use Rattle.path.proofs.Parts.{no_fewer}
use Rattle.path.specs.declared.inherits.Uninherited.{Uninherited}
use Rattle.path.specs.declared.inherits.Uninherited.TheVariants as why
use Rattle.path.specs.declared.walks.Missing.{Missing}

-- a refusal in a space
abbrev pub fault_in : Refusal → ℕ → ℕ → ℕ → Halves → Refused
fault_in r k extension s v = record { refusal = r; certificate = k; extension = extension; place = 0; space = s; value = v }

-- 13: WHAT THE ISSUER LACKS

-- a value that is carried, and whose extension the issuer lacks
abbrev unmet : List ℕ → Bool → Bool
unmet v has = pick (carried v) (pick has false true) false

-- it lacks that of a value which is there,
pub is_unmet : (v : List ℕ) (has : Bool) → 0 < length v → not has ≡ true → unmet v has ≡ true
is_unmet v has h e = let z : length v ≡ 0 → ⊥ = omega arith in rw (ne_eqb (length v) 0 z, not-true has e)

-- not where it has that,
pub is_met : (v : List ℕ) (has : Bool) → not has ≡ false → unmet v has ≡ false
is_met v has e = go (eqb (length v) 0)
  where
    go : (b : Bool) → pick (pick b false true) (pick has false true) false ≡ false
    go true = refl
    go false = rw (not-false has e)

-- nor of a value that is absent
pub is_absent : (v : List ℕ) (has : Bool) → length v ≤ 0 → unmet v has ≡ false
is_absent v has h = let z : length v ≡ 0 = omega arith in rw (eq-eqb (length v) 0 z)

-- so the answers
module _ (ip ids : List ℕ) (has_ip has_ids : Bool) where
  pub lacked_ip : unmet ip has_ip ≡ true → Some ip_extension ≡ lacked ip ids has_ip has_ids
  unfolding lacked
  lacked_ip e = rw e

  pub lacked_ids : unmet ip has_ip ≡ false → unmet ids has_ids ≡ true → Some as_extension ≡ lacked ip ids has_ip has_ids
  unfolding lacked
  lacked_ids e f = rw (e, f)

  pub lacked_none : unmet ip has_ip ≡ false → unmet ids has_ids ≡ false → None ≡ lacked ip ids has_ip has_ids
  unfolding lacked
  lacked_none e f = rw (e, f)

-- THE WALK

-- a walk that found all covered,
was_covered : (r : Result) (p : ℕ) (w : walked.Walked) → w ≡ replied r p → w.missing ≡ None → (r ≡ covered) × (p ≡ w.pairs)
was_covered covered p w e h = (refl, sym (ap (λ (x : walked.Walked). x.pairs) e))
was_covered (missing s n) p w e h = let q = ap (λ (x : walked.Walked). x.missing) e in let z : ◌≡◌ {A = ℕ} 0 1 = cc in absurd (omega arith)

-- and one that found a number missing
was_missing : (r : Result) (p : ℕ) (w : walked.Walked) (m : Missing) → w ≡ replied r p → w.missing ≡ Some m → (n : ℕ) × (r ≡ missing m.space n) × (m.value ≡ halves n)
was_missing covered p w m e h = let q = ap (λ (x : walked.Walked). x.missing) e in let z : ◌≡◌ {A = ℕ} 0 1 = cc in absurd (omega arith)
was_missing (missing t n) p w m e h =
    let q = ap (λ (x : walked.Walked). x.missing) e in
    let u : m ≡ record { space = t; value = halves n } = cc in
    (n, ap (λ (x : Missing). missing x.space n) (sym u), ap (λ (x : Missing). x.value) u)

module _ (a : code.Above) (issuer own : List ℕ) (n : ℕ) where
  -- what is to be answered
  abbrev held : Left
  held = held_by n own (hold_step (seen_above a issuer) (rows_in n own))

  -- the anchor
  pub hold_anchor : a.certificates ≡ 0 → ◌≡◌ {A = Left} (Ok (record { rows = n; pairs = 0 }), own) held
  unfolding hold_step
  hold_anchor h = rw (eq-eqb a.certificates 0 h)

  module _ (some : a.certificates ≡ 0 → ⊥) (w : walked.Walked) (e : w ≡ walked_of (walk (rows_in n own) (rows_in a.rows issuer))) where
    -- all is covered
    pub hold_covered : w.missing ≡ None → ◌≡◌ {A = Left} (Ok (record { rows = n; pairs = w.pairs }), own) held
    unfolding hold_step
    hold_covered h =
        let (r, p) = was_covered (walk (rows_in n own) (rows_in a.rows issuer)).result (walk (rows_in n own) (rows_in a.rows issuer)).pairs w e h in
        rw (ne_eqb a.certificates 0 some, r, p)

    -- a number is missing
    pub hold_missing : (m : Missing) → w.missing ≡ Some m → (f : Refused) → f ≡ fault_in refusal.NotHeld a.certificates (extension_of m.space) m.space m.value → refused f own ≡ held
    unfolding hold_step
    hold_missing m h f g = let (x, y, u) = was_missing (walk (rows_in n own) (rows_in a.rows issuer)).result (walk (rows_in n own) (rows_in a.rows issuer)).pairs w m e h in from x y u
      where
        from : (x : ℕ) → (walk (rows_in n own) (rows_in a.rows issuer)).result ≡ missing m.space x → m.value ≡ halves x → refused f own ≡ held
        from x y u = rw (ne_eqb a.certificates 0 some, y, g, u)

-- INHERITANCE

-- a table has all the rows that are asked for
pub rows_in_lem : (n : ℕ) (t : List ℕ) → n ≤ max_rows → table_numbers ≤ length t → rows_in n t ≡ rows_of n t
rows_in_lem n t h l = let e : min n (room t) ≡ n = omega arith in ap (λ (k : ℕ). rows_of k t) e

-- the last step over a table that has the rows leaves what it leaves over the table before
held_left : (a : Above) (t : List ℕ) (rows : List Row) → length rows ≤ max_rows → held_by (length rows) (with_rows t 0 rows) (hold_step a rows) ≡ left (hold_step a rows) t
unfolding hold_step
held_left a t rows h = go (eqb a.certificates 0) (walk rows a.rows).result
  where
    go : (b : Bool) (r : Result) → held_by (length rows) (with_rows t 0 rows) (pick b (is (rows, 0)) (walk_step a.certificates rows r (walk rows a.rows).pairs))
        ≡ left (pick b (is (rows, 0)) (walk_step a.certificates rows r (walk rows a.rows).pairs)) t
    go true r = refl
    go false covered = refl
    go false (missing s n) = ap (λ (l : List ℕ). (Err (fault_at refusal.NotHeld a.certificates (extension_of s) s n), l)) (cleared_rows t 0 rows (omega arith))

-- what `inherits::inherit` answered and left, by its answer
abbrev Filled : Spaces → List Row → List ℕ → Inherited → List ℕ → Type 0
Filled s rows own (Ok k) t = (s ≡ all) × (length rows ≤ max_rows) × (k ≡ length rows) × (t ≡ with_rows own 0 rows)
Filled s rows own (Err (why.NoSpace x)) t = (s ≡ lacks x) × (t ≡ own)
Filled s rows own (Err why.TooMany) t = (s ≡ all) × (max_rows < length rows) × (t ≡ own)
Filled s rows own (Err why.Short) t = ⊥

-- and it is so
filled : (s : Spaces) (rows : List Row) (own : List ℕ) → Filled s rows own (filled_in s rows own).0 (filled_in s rows own).1
filled (lacks x) rows own = (refl, refl)
filled all rows own = go (ltb max_rows (length rows)) refl
  where
    go : (b : Bool) → ltb max_rows (length rows) ≡ b
        → Filled all rows own (pick {A = Inherited × List ℕ} b (Err why.TooMany, own) (Ok (length rows), with_rows own 0 rows)).0
        (pick {A = Inherited × List ℕ} b (Err why.TooMany, own) (Ok (length rows), with_rows own 0 rows)).1
    go true e = (refl, ltb-true max_rows (length rows) e, refl)
    go false e = (refl, ltb-false max_rows (length rows) e, refl, refl)

module _ (a : code.Above) (issuer own : List ℕ) (n : ℕ) (few : n ≤ max_rows) (long : table_numbers ≤ length own)
    (x : Inherited) (t : List ℕ) (e : ◌≡◌ {A = Inherited × List ℕ} (x, t) (inherit n own a.rows issuer)) where
  -- the issuer, and the rows before and after inheritance
  abbrev above : Above
  above = seen_above a issuer

  abbrev rows : List Row
  rows = rows_of n own

  abbrev whole : List Row
  whole = resolved above.rows rows

  -- what is to be answered
  abbrev answer : Left
  answer = left (after_presence above rows) own

  -- the table is long enough, and has the n rows
  opened : ◌≡◌ {A = Inherited × List ℕ} (x, t) (filled_in (lacking above.rows rows) whole own)
  unfolding inherit
  opened = rw (le-ltb (length own) table_numbers long, rows_in_lem n own few long) at e

  -- so the answer tells which spaces are lacking and how many rows there are
  told : Filled (lacking above.rows rows) whole own x t
  told = rw (← opened) at (filled (lacking above.rows rows) whole own)

  -- there are no rows
  pub inherits_not : (y : Uninherited) → x ≡ Err y → (f : Refused) → f ≡ uninherited a.certificates y → refused f t ≡ answer
  unfolding after_presence after_inheritance
  inherits_not (why.NoSpace s) h f g = let (l, o) = rw h at told in rw (l, g, o)
  inherits_not why.TooMany h f g = let (l, m, o) = rw h at told in rw (l, lt-ltb max_rows (length whole) m, g, o)
  inherits_not why.Short h f g = absurd (rw h at told)

  -- the rows after inheritance, and what the walk says of them
  pub inherits_holds : (k : ℕ) → x ≡ Ok k → (r : Reply) → zeroed r t ≡ held_by k t (hold_step above (rows_in k t)) → zeroed r t ≡ answer
  unfolding after_presence after_inheritance
  inherits_holds k h r q =
      let (l, m, c, o) = rw h at told in
      let i : length whole ≤ room own = omega arith in
      let b : table_numbers ≤ length (with_rows own 0 whole) = rw length-with_rows long in
      let w : rows_in (length whole) (with_rows own 0 whole) ≡ whole = rows_in_lem (length whole) (with_rows own 0 whole) m b ∙ rows_written own whole i in
      rw (l, le-ltb max_rows (length whole) m) (q ∙ rw (c, o, w) (held_left above own whole m))

-- OVER THE ROWS THAT WERE READ

-- a step that gives as many rows at least
abbrev Longer : List Row → Step (List Row × ℕ) → Type 0
Longer rows (is h) = length rows ≤ length h.0
Longer rows (isnt f) = Unit {0}

-- the last step gives the rows it was given
hold_longer : (a : Above) (rows own : List Row) → length rows ≤ length own → Longer rows (hold_step a own)
unfolding hold_step
hold_longer a rows own h = go (eqb a.certificates 0) (walk own a.rows).result
  where
    go : (b : Bool) (r : Result) → Longer rows (pick b (is (own, 0)) (walk_step a.certificates own r (walk own a.rows).pairs))
    go true r = h
    go false covered = h
    go false (missing s n) = tt

-- and inheritance gives as many as there were, or more
presence_longer : (a : Above) (rows : List Row) → Longer rows (after_presence a rows)
unfolding after_presence after_inheritance
presence_longer a rows = go (lacking a.rows rows) refl
  where
    own : List Row
    own = resolved a.rows rows

    count : (b : Bool) → length rows ≤ length own → Longer rows (onward (pick b (isnt (fault_at refusal.RowCount a.certificates 0 0 0)) (is own)) (λ qs. hold_step a qs))
    count true h = tt
    count false h = hold_longer a rows own h

    go : (s : Spaces) → lacking a.rows rows ≡ s → Longer rows (onward (spaces_step a.certificates s own) (λ qs. after_inheritance a qs))
    go (lacks x) e = tt
    go all e = count (ltb max_rows (length own)) (no_fewer a.rows rows e)

-- what is left is the same over the rows that were read, and over what was there before
left_over : (rows : List Row) (t : List ℕ) (s : Step (List Row × ℕ)) → length rows ≤ max_rows → Longer rows s → left s (with_rows t 0 rows) ≡ left s t
left_over rows t (is h) m l = ap (λ (u : List ℕ). (Ok (record { rows = length h.0; pairs = h.1 }), u)) (with_rows_over t 0 rows h.0 l)
left_over rows t (isnt f) m l = ap (λ (u : List ℕ). (Err f, u)) (cleared_rows t 0 rows (omega arith))

-- so of the steps after the reading
pub read_again : (a : Above) (rows : List Row) (t : List ℕ) → length rows ≤ max_rows → left (after_presence a rows) (with_rows t 0 rows) ≡ left (after_presence a rows) t
read_again a rows t m = left_over rows t (after_presence a rows) m (presence_longer a rows)
