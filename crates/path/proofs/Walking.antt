-- The loop of `walk`: what holds at its head, and what each way on from there gives. Assumes nothing.
use mathlib.Core.Path.{◌≡◌, refl, sym, ap, ap₂, ◌∙◌}
use mathlib.Core.List.{List, [], ◌∷◌}
use mathlib.Core.Bool.{Bool, true, false}
use Prim.Native.Nat.{ℕ, suc, min, ◌+◌, ◌-◌, ◌*◌, ◌≤◌, ◌<◌, ◌^◌}
use native.Mathlib.Omega.{arith}
use lib.ListN.{length, take, drop, length-take, length-drop}
use Rattle.std.specs.Prelude.{Some, None}
use Rattle.number.specs.Tests.{pick}
use Rattle.number.specs.Halves.{halves}
use Rattle.number.specs.declared.halves.Halves.{Halves}
use Rattle.number.proofs.Picks.{rest_of}
use Rattle.table.specs.Sizes.{row_numbers}
use Rattle.table.specs.Rows.{Row, room, row_at, rows_in, rows_all}
use Rattle.table.proofs.laws.Rows.{rows_cut, rows_first, rows_none}
use Rattle.path.specs.Walk.{Walked, within, passed, gap, counted, stopped, against, walk, meet_of, walked_of}
use Rattle.path.specs.declared.walks.Meet.{Meet}
use Rattle.path.specs.declared.walks.Meet.TheVariants as meet
use Rattle.path.specs.declared.walks.Walked as answer

-- THE WALK BY HOW TWO ROWS MEET

-- how the tests of two rows came out: the walk takes the step of the same tests
module _ (n m : Halves) (v w z : Walked) where
  step_within : (t u : Bool) → pick t meet.Within (pick u meet.Passed (meet.Apart n)) ≡ meet.Within → pick t v (pick u w z) ≡ v
  step_within true u e = refl
  step_within false true e = let x : ◌≡◌ {A = ℕ} 0 1 = cc in absurd (omega arith)
  step_within false false e = let x : ◌≡◌ {A = ℕ} 0 1 = cc in absurd (omega arith)

  step_passed : (t u : Bool) → pick t meet.Within (pick u meet.Passed (meet.Apart n)) ≡ meet.Passed → pick t v (pick u w z) ≡ w
  step_passed true u e = let x : ◌≡◌ {A = ℕ} 0 1 = cc in absurd (omega arith)
  step_passed false true e = refl
  step_passed false false e = let x : ◌≡◌ {A = ℕ} 0 1 = cc in absurd (omega arith)

  step_apart : (t u : Bool) → pick t meet.Within (pick u meet.Passed (meet.Apart n)) ≡ meet.Apart m → (pick t v (pick u w z) ≡ z) × (m ≡ n)
  step_apart true u e = let x : ◌≡◌ {A = ℕ} 0 1 = cc in absurd (omega arith)
  step_apart false true e = let x : ◌≡◌ {A = ℕ} 0 1 = cc in absurd (omega arith)
  step_apart false false e = (refl, cc)

module _ (o i : Row) (os is : List Row) where
  on_own : meet_of o i ≡ meet.Within → walk (o ∷ os) (i ∷ is) ≡ counted (walk os (i ∷ is))
  unfolding walk against meet_of
  on_own e = step_within (halves (gap o i)) (halves (gap o i)) _ _ _ (within o i) (passed o i) e

  on_issuer : meet_of o i ≡ meet.Passed → walk (o ∷ os) (i ∷ is) ≡ counted (walk (o ∷ os) is)
  unfolding walk against meet_of
  on_issuer e = step_passed (halves (gap o i)) (halves (gap o i)) _ _ _ (within o i) (passed o i) e

  halt : (n : Halves) → meet_of o i ≡ meet.Apart n → (walk (o ∷ os) (i ∷ is) ≡ stopped o (gap o i) 1) × (n ≡ halves (gap o i))
  unfolding walk against meet_of
  halt n e = step_apart (halves (gap o i)) n _ _ _ (within o i) (passed o i) e

-- THE LOOP

abbrev added : ℕ → Walked → Walked
added k w = record { result = w.result; pairs = k + w.pairs }

added_none : (w : Walked) → added 0 w ≡ w
added_none w = let e : 0 + w.pairs ≡ w.pairs = omega arith in ap (λ (n : ℕ). record { result = w.result; pairs = n }) e

added_counted : (k : ℕ) (w : Walked) → added k (counted w) ≡ added (k + 1) w
added_counted k w = let e : k + suc w.pairs ≡ k + 1 + w.pairs = omega arith in ap (λ (n : ℕ). record { result = w.result; pairs = n }) e

-- w is what the definition gives for the whole; the two runs are left, and each pair so far took a row off one of them
pub record Walking (w : Walked) (left held : List ℕ) (pairs : ℕ) : Type 0 where
  pub same : added pairs (walk (rows_all left) (rows_all held)) ≡ w
  pub fits : pairs + (room left + room held) < 2 ^ 64

-- all rows are left
pub walk_start : (own issuer : List ℕ) (n m last end : ℕ) → last ≡ min n (room own) → end ≡ min m (room issuer) → length own < 2 ^ 64 → length issuer < 2 ^ 64
    → Walking (walk (rows_in n own) (rows_in m issuer)) (take (row_numbers * last) own) (take (row_numbers * end) issuer) 0
walk_start own issuer n m last end p q f g =
    let a = rows_cut last own (omega arith) in
    let b = rows_cut end issuer (omega arith) in
    record {
      same = rw (a, b, p, q) (added_none (walk (rows_in n own) (rows_in m issuer)));
      fits = omega (arith, length-take (row_numbers * last) own, length-take (row_numbers * end) issuer);
    }

-- a run is shorter without its first row
pub walk_less : (t : List ℕ) → row_numbers ≤ length t → length (take (length t - row_numbers) (drop row_numbers t)) < length t
walk_less t h = rw (rest_of row_numbers t, length-drop) (omega arith)

module _ {w : Walked} {left held : List ℕ} {pairs : ℕ} (h : Walking w left held pairs) where
  -- no own row is left
  pub walk_end : length left < row_numbers → record { missing = None; pairs = pairs } ≡ walked_of w
  unfolding walk
  walk_end p =
      let s : added pairs (walk [] (rows_all held)) ≡ w = rw (rows_none left p) at h.same in
      let e : pairs ≡ pairs + 0 = omega arith in
      ap (λ (k : ℕ). record { missing = None; pairs = k }) e ∙ ap (λ (y : Walked). walked_of y) s

  module _ (p : row_numbers ≤ length left) where
    -- one pair more is a number of the code
    pub walk_fits : pairs + 1 < 2 ^ 64
    walk_fits = omega (arith, h.fits)

    -- no row of the issuer is left
    pub walk_out : length held < row_numbers → {s : ℕ} {l : Halves} {r : answer.Walked} → s ≡ (row_at left 0).space → l ≡ halves (row_at left 0).low
        → r ≡ record { missing = Some (record { space = s; value = l }); pairs = pairs } → r ≡ walked_of w
    unfolding walk against
    walk_out q a b d =
        let s : added pairs (walk (row_at left 0 ∷ rows_all (drop row_numbers left)) []) ≡ w = rw (rows_first left p, rows_none held q) at h.same in
        let z : pairs ≡ pairs + 0 = omega arith in
        d ∙ rw (a, b) (ap (λ (k : ℕ). record { missing = Some (record { space = (row_at left 0).space; value = halves (row_at left 0).low }); pairs = k }) z ∙ ap (λ (y : Walked). walked_of y) s)

    module _ (q : row_numbers ≤ length held) {x : Meet} (d : x ≡ meet_of (row_at left 0) (row_at held 0)) where
      opened : added pairs (walk (row_at left 0 ∷ rows_all (drop row_numbers left)) (row_at held 0 ∷ rows_all (drop row_numbers held))) ≡ w
      opened = rw (rows_first left p, rows_first held q) at h.same

      on : (v : Walked) → walk (row_at left 0 ∷ rows_all (drop row_numbers left)) (row_at held 0 ∷ rows_all (drop row_numbers held)) ≡ counted v → added (pairs + 1) v ≡ w
      on v s = sym (added_counted pairs v) ∙ ap (λ (y : Walked). added pairs y) (sym s) ∙ opened

      -- the own row lies within the issuer's
      pub walk_own : x ≡ meet.Within → Walking w (take (length left - row_numbers) (drop row_numbers left)) held (pairs + 1)
      walk_own m =
          rw (rest_of row_numbers left)
          (record {
            same = rw (rows_first held q) (on _ (on_own (row_at left 0) (row_at held 0) _ _ (sym d ∙ m)));
            fits = omega (arith, h.fits, length-drop row_numbers left);
          })

      -- the issuer's row ends before the own row begins
      pub walk_issuer : x ≡ meet.Passed → Walking w left (take (length held - row_numbers) (drop row_numbers held)) (pairs + 1)
      walk_issuer m =
          rw (rest_of row_numbers held)
          (record {
            same = rw (rows_first left p) (on _ (on_issuer (row_at left 0) (row_at held 0) _ _ (sym d ∙ m)));
            fits = omega (arith, h.fits, length-drop row_numbers held);
          })

      -- neither
      pub walk_stops : {n : Halves} → x ≡ meet.Apart n → {s : ℕ} {r : answer.Walked} → s ≡ (row_at left 0).space → r ≡ record { missing = Some (record { space = s; value = n }); pairs = pairs + 1 } → r ≡ walked_of w
      walk_stops {n} m e y =
          let (s, g) = halt (row_at left 0) (row_at held 0) (rows_all (drop row_numbers left)) (rows_all (drop row_numbers held)) n (sym d ∙ m) in
          y ∙ ap₂ (λ (i : ℕ) (k : Halves). record { missing = Some (record { space = i; value = k }); pairs = pairs + 1 }) e g
          ∙ ap (λ (k : Walked). walked_of (added pairs k)) (sym s) ∙ ap (λ (k : Walked). walked_of k) opened
