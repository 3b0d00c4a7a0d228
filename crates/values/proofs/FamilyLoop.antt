-- The loop of `blocks::families`. Theorems. Assumes nothing.
--     step_bad, step_isnt, step_got      one step of the definition, by what `open` and `family_of` answered
--     Gathering      the loop's invariant.     gather_start, gather_bad, gather_isnt, gather_turn, gather_end      its places
--     head_fits, place_fits, next_fits, gather_less      its numbers
use mathlib.Core.Path.{◌≡◌, refl, sym, ap, ◌∙◌}
use mathlib.Core.List.{List, [], ◌∷◌, ◌++◌, append_assoc, append-nil}
use Prim.Native.Nat.{ℕ, ◌+◌, ◌-◌, ◌^◌, ◌≤◌, ◌<◌}
use native.Mathlib.Omega.{arith}
use lib.ListN.{length, take, drop, length-drop}
use Rattle.number.specs.declared.refusal.Refusal.{Refusal}
use Rattle.number.proofs.Picks.{rest_of}
use Rattle.table.specs.Rows.{Row, with_rows}
use Rattle.der.specs.Tags.{SEQUENCE}
use Rattle.der.specs.Opening.{opening_of}
use Rattle.der.specs.Walk.{got, no}
use Rattle.der.specs.Parts.{is, isnt, admitted}
use Rattle.der.proofs.Held.{Held, held_start, held_end, held_exit, held_turn}
use Rattle.der.proofs.laws.Heads.{opens}
use Rattle.values.specs.Faults.{Fault, at, later, moved}
use Rattle.values.specs.Elements.{Place}
use Rattle.values.specs.Choices.{Choice, choice_rows}
use Rattle.values.specs.Blocks.{family_of, family_at, admit_family, family_step, families_of}
use Rattle.values.specs.Tables.{blocks_rows}
use Rattle.values.specs.Into.{Stands, CountedInto, FamilyInto}
use Rattle.values.proofs.Joins.{tag_refused, tag_isnt, tag_took, tag_place}
use Rattle.values.proofs.Wholes.{before}
use Rattle.values.proofs.Filling.{stands_still, stands_on, counted_is, counted_not}
use Rattle.values.proofs.Answers.{rows_on, count_on, Denied, Granted, family_bad, family_rows}
use Rattle.der.specs.Opening.{Opening}
use Rattle.std.specs.Prelude.{Ok, Err}
use Rattle.values.specs.Faults.{Read}

-- ONE STEP

module _ (σ : Place) (s : List ℕ) (o : Opening) (p : o ≡ opening_of SEQUENCE s) where
  -- no SEQUENCE
  step_bad : (f : Refusal) → o ≡ Err f → family_step σ s ≡ no (at (σ.0 + 0) f)
  unfolding family_step admitted family_at
  step_bad f q = rw (← (tag_refused SEQUENCE s p (λ k c. moved k (family_of σ.1 σ.2 c)) f q).told)

  module _ (k e : ℕ) (q : o ≡ Ok (k, e)) where
    -- its contents are refused
    step_isnt : (f : Fault) → isnt f ≡ family_of σ.1 σ.2 (take (e - k) (drop k s)) → k + f.place ≤ length s → family_step σ s ≡ no (later σ.0 (later k f))
    unfolding family_step admitted family_at
    step_isnt f h l = rw (← (tag_isnt SEQUENCE s p k e q (λ k c. moved k (family_of σ.1 σ.2 c)) (later k f) (rw (← h) refl) l).told)

    -- they are a family
    step_got : (a m : ℕ) (c : Choice) → is (a, c) ≡ family_of σ.1 σ.2 (take (e - k) (drop k s)) → m ≡ σ.2 + length (choice_rows a c) → e ≤ length s
        → family_step σ s ≡ got (a, c) (σ.0 + e, a + 1, m) (drop e s)
    unfolding family_step admitted family_at admit_family
    step_got a m c h n l = rw (← (tag_took SEQUENCE s p k e q (λ k c. moved k (family_of σ.1 σ.2 c)) (a, c) (rw (← h) refl)).told, before e s l, n)

-- ROWS OF FAMILIES

-- those of one more
blocks_snoc : (fs : List (ℕ × Choice)) (f : ℕ × Choice) → blocks_rows (fs ++ (f ∷ [])) ≡ blocks_rows fs ++ choice_rows f.0 f.1
blocks_snoc [] f = append-nil (choice_rows f.0 f.1)
blocks_snoc (g ∷ fs) f = ap (λ (rs : List Row). choice_rows g.0 g.1 ++ rs) (blocks_snoc fs f) ∙ sym (append_assoc (choice_rows g.0 g.1) (blocks_rows fs) (choice_rows f.0 f.1))

-- THE LOOP

-- n rows now, those of the families read; the rest is left, and the next space is at least least
pub record Gathering (s t₀ t rest : List ℕ) (least n : ℕ) : Type 0 where
  pub read : List (ℕ × Choice)
  pub held : Held family_step (families_of s) (length s - length rest, least, n) read rest
  pub table : t ≡ with_rows t₀ 0 (blocks_rows read)
  pub rows : n ≡ 0 + length (blocks_rows read)
  pub stands : Stands t₀ t
  pub inside : length rest ≤ length s

-- nothing is read yet
pub gather_start : (s t : List ℕ) → Gathering s t t s 0 0
unfolding families_of with_rows
gather_start s t =
    let z : length s - length s ≡ 0 = omega arith in
    record { read = []; held = rw z (held_start (0, 0, 0) s); table = refl; rows = refl; stands = stands_still t; inside = omega arith }

-- a part of what was left
pub gather_less : (rest : List ℕ) (o : Opening) (k e : ℕ) → o ≡ opening_of SEQUENCE rest → o ≡ Ok (k, e) → 0 < length rest → length (take (length rest - e) (drop e rest)) < length rest
gather_less rest o k e p q l = let i = opens SEQUENCE rest k e p q in rw (rest_of e rest, length-drop) (omega (arith, i.start, i.order))

module _ (s t₀ t rest : List ℕ) (least n : ℕ) (v : Gathering s t₀ t rest least n) where
  -- nothing is left
  pub gather_end : length rest ≤ 0 → CountedInto blocks_rows (length s) 0 t₀ (families_of s) (Ok n) t
  gather_end h = counted_is blocks_rows (length s) 0 t₀ t (families_of s) (Ok n) v.read (held_end v.held h) (ap Ok v.rows) v.table v.stands

  module _ (h : 0 < length rest) (o : Opening) (p : o ≡ opening_of SEQUENCE rest) where
    -- no SEQUENCE is next
    pub gather_bad : (f : Refusal) → o ≡ Err f → CountedInto blocks_rows (length s) 0 t₀ (families_of s) (Err (at (length s - length rest) f)) t
    gather_bad f q =
        let z : length s - length rest + 0 ≡ length s - length rest = omega arith in
        counted_not blocks_rows (length s) 0 t₀ t (families_of s) (Err (at (length s - length rest) f)) (at (length s - length rest) f)
        (held_exit v.held (at (length s - length rest) f) h (step_bad _ rest o p f q ∙ rw z)) refl (omega arith) v.stands

    module _ (k e : ℕ) (q : o ≡ Ok (k, e)) where
      -- the place of its contents
      pub head_fits : length s < 2 ^ 64 → length s - length rest + k < 2 ^ 64
      head_fits l = let i = opens SEQUENCE rest k e p q in omega (arith, v.inside, i.order, i.inside)

      module _ (t' : List ℕ) (r : Read (ℕ × ℕ)) (u : FamilyInto (length (take (e - k) (drop k rest))) n t (family_of least n (take (e - k) (drop k rest))) r t') where
        -- they are refused
        module _ (f : Fault) (w : r ≡ Err f) where
          refusal_of_lem : Denied (length (take (e - k) (drop k rest))) (family_of least n (take (e - k) (drop k rest))) (isnt f) f.place t t'
          refusal_of_lem = family_bad _ n t t' r (family_of least n (take (e - k) (drop k rest))) u f w

          place : k + f.place ≤ length rest
          place = tag_place SEQUENCE rest p k e q f.place refusal_of_lem.inside

          pub place_fits : length s < 2 ^ 64 → length s - length rest + k + f.place < 2 ^ 64
          place_fits l = omega (arith, v.inside, place)

          pub gather_isnt : CountedInto blocks_rows (length s) 0 t₀ (families_of s) (Err (later (length s - length rest + k) f)) t'
          gather_isnt =
              let z : length s - length rest + (k + f.place) ≡ length s - length rest + k + f.place = omega arith in
              counted_not blocks_rows (length s) 0 t₀ t' (families_of s) (Err (later (length s - length rest + k) f)) (later (length s - length rest + k) f)
              (held_exit v.held (later (length s - length rest + k) f) h (step_isnt _ rest o p k e q f refusal_of_lem.was place ∙ rw z)) refl (omega (arith, v.inside, place)) (stands_on v.stands refusal_of_lem.stands)

        -- they are a family
        module _ (a m : ℕ) (w : r ≡ Ok (a, m)) where
          family_of_these : Granted (choice_rows a) (λ c. is (a, c)) (family_of least n (take (e - k) (drop k rest))) n m t t' × (a ≤ 4095)
          family_of_these = family_rows _ n t t' r (family_of least n (take (e - k) (drop k rest))) u a m w

          pub next_fits : a + 1 < 2 ^ 64
          next_fits = omega (arith, family_of_these.1)

          pub gather_turn : Gathering s t₀ t' (take (length rest - e) (drop e rest)) (a + 1) m
          gather_turn =
              let (g, b) = family_of_these in
              let i = opens SEQUENCE rest k e p q in
              let c = g.read in
              let d = length-drop e rest in
              let z : length s - length (drop e rest) ≡ length s - length rest + e = omega (arith, v.inside, i.inside) in
              let y = blocks_snoc v.read (a, c) in
              rw (rest_of e rest)
              (record {
                read = v.read ++ ((a, c) ∷ []);
                held = rw z (held_turn v.held (a, c) _ (drop e rest) h (step_got _ rest o p k e q a m c g.was g.count i.inside) (omega (arith, i.start, i.order)));
                table = rw y (rows_on t₀ 0 (blocks_rows v.read) (choice_rows a c) v.table v.rows g.table);
                rows = rw y (count_on 0 (blocks_rows v.read) (choice_rows a c) v.rows g.count);
                stands = stands_on v.stands g.stands;
                inside = omega (arith, v.inside);
              })
