-- What the functions of `choices` answer and leave of the table, at each of their ends. Assumes nothing.
--     inherit_bad, inherit_contents, inherit_full, inherit_is      `inherit_at`
--     list_bad, list_isnt, list_none, list_some        `list_at`
--     choice_null, choice_list      `read`
use mathlib.Core.Path.{◌≡◌, refl, sym, ap, ◌∙◌}
use mathlib.Core.List.{List, [], ◌∷◌}
use mathlib.Core.Bool.{Bool, true, false}
use Prim.Native.Nat.{ℕ, ◌+◌, ◌-◌, ◌≤◌, ◌<◌}
use native.Mathlib.Omega.{arith}
use lib.ListN.{length, get_or, take, drop}
use borrow.Author.Tests.{le-leb, lt-leb, eq-eqb, ne_eqb}
use Rattle.number.specs.declared.refusal.Refusal.{Refusal}
use Rattle.number.specs.declared.refusal.Refusal.TheVariants as refusal
use Rattle.table.specs.Sizes.{max_rows}
use Rattle.table.specs.Rows.{seen, in_halves, with_row, with_rows}
use Rattle.table.specs.declared.rows.Row as code
use Rattle.der.specs.Tags.{NULL, SEQUENCE}
use Rattle.der.specs.Strings.{is_null}
use Rattle.der.specs.Opening.{opening_of}
use Rattle.der.specs.Parts.{Contents, is, isnt, Part, closed, sifted, filled}
use Rattle.der.proofs.Tagged.{tagged_bad, tagged_is}
use Rattle.values.specs.Faults.{Fault, at, moved, later}
use Rattle.values.specs.Spaces.{space_number}
use Rattle.values.specs.Elements.{elements_of}
use Rattle.values.specs.Choices.{Choice, inherit, listed, inherited, list_at, inherit_at, listed_at, choice_at, listed_rows, inherit_row}
use Rattle.values.specs.Into.{Pushed, CountedInto, ChosenInto}
use Rattle.values.specs.declared.elements.Space.{Space}
use Rattle.values.proofs.Joins.{tag_inside, tag_place}
use Rattle.values.proofs.Filling.{stands_still, stands_row, pushed_not, pushed_is, chosen_is, chosen_not}
use Rattle.values.proofs.Answers.{counted_bad}
use Rattle.der.specs.Opening.{Opening}
use Rattle.std.specs.Prelude.{Result, Ok, Err}
use Rattle.values.specs.Faults.{Read, Taken}

-- INHERIT

module _ (a n : ℕ) (s t : List ℕ) (r : Opening) (p : r ≡ opening_of NULL s) where
  -- no NULL
  pub inherit_bad : (f : Refusal) → r ≡ Err f → ChosenInto a s n t (inherit_at n s) (Err (at 0 f)) t
  unfolding inherit_at
  inherit_bad f q = chosen_not a s n t t _ _ (at 0 f) (tagged_bad (at 0) NULL _ s f (sym p ∙ q)) refl (omega arith) (stands_still t)

  module _ (k e : ℕ) (q : r ≡ Ok (k, e)) (b : Bool) (g : b ≡ is_null (take (e - k) (drop k s))) where
    -- what its contents say
    inherit_by : (o : Contents Choice Fault) → inherited n (take (e - k) (drop k s)) ≡ o → inherit_at n s ≡ closed o (drop e s)
    unfolding inherit_at
    inherit_by o h = tagged_is (at 0) NULL (λ k. inherited n) s k e (sym p ∙ q) ∙ ap (λ (x : Contents Choice Fault). closed x (drop e s)) h

    -- there are some
    pub inherit_contents : b ≡ false → ChosenInto a s n t (inherit_at n s) (Err (at 0 refusal.Contents)) t
    unfolding inherited
    inherit_contents h = chosen_not a s n t t _ _ (at 0 refusal.Contents) (inherit_by (isnt (at 0 refusal.Contents)) (rw (← g, h))) refl (omega arith) (stands_still t)

    -- there is no row for it
    full : b ≡ true → max_rows ≤ n → ChosenInto a s n t (inherit_at n s) (Err (at 0 refusal.RowCount)) t
    unfolding inherited
    full h l = chosen_not a s n t t _ _ (at 0 refusal.RowCount) (inherit_by (isnt (at 0 refusal.RowCount)) (rw (← g, h, le-leb max_rows n l))) refl (omega arith) (stands_still t)

    -- its row is written
    written : (t' : List ℕ) (row : code.Row) → b ≡ true → n < max_rows → row ≡ in_halves (inherit_row a) → t' ≡ with_row t n (seen row) → ChosenInto a s n t (inherit_at n s) (Ok ((n + 1), e)) t'
    unfolding inherited with_rows
    written t' row h l u w =
        let z : t' ≡ with_row t n (inherit_row a) = rw u at w in
        chosen_is a s n t t' _ _ inherit e (inherit_by (is inherit) (rw (← g, h, lt-leb max_rows n l))) refl (tag_inside NULL s p k e q) z (rw z (stands_row t n (inherit_row a) l))

    -- by what `push` did with it
    module _ (row : code.Row) (h : b ≡ true) (u : row ≡ in_halves (inherit_row a)) (n' : ℕ) (t' : List ℕ) (w : Result (Unit {0}) Refusal) (j : Pushed n t (seen row) w n' t') where
      pub inherit_full : (f : Refusal) → w ≡ Err f → ChosenInto a s n t (inherit_at n s) (Err (at 0 f)) t'
      inherit_full f o =
          let (l, x, y, z) = pushed_not n t (seen row) w n' t' j f o in
          rw (x, z) (full h l)

      pub inherit_is : (y : Unit {0}) → w ≡ Ok y → ChosenInto a s n t (inherit_at n s) (Ok (n', e)) t'
      inherit_is y o =
          let (l, x, z) = pushed_is n t (seen row) w n' t' j y o in
          rw x (written t' row h l u z)

-- A LIST

-- the choice that its elements are, from the place k to the place e of s
abbrev choice_of : List ℕ → ℕ → ℕ → Contents (List (ℕ × ℕ)) Fault → Part Choice Fault
choice_of s k e x = sifted (λ rs. is (listed rs)) (closed (filled (at 0 refusal.EmptyList) (moved k x)) (drop e s))

-- by what was read of those m octets
module _ (a n : ℕ) (s t t' : List ℕ) (k e m : ℕ) (c : Read ℕ) where
  -- there are none
  elements_none : (x : Contents (List (ℕ × ℕ)) Fault) → CountedInto (listed_rows a) m n t x c t' → (j : ℕ) → c ≡ Ok j → j ≡ n
      → ChosenInto a s n t (choice_of s k e x) (Err (at 0 refusal.EmptyList)) t'
  elements_none (isnt g) (w, u, v) j d l = let z : ◌≡◌ {A = ℕ} 0 1 = cc in absurd (omega arith)
  elements_none (is []) (w, u, v) j d l = (refl, omega arith, v)
  elements_none (is (x ∷ xs)) (w, u, v) j d l = let z : j ≡ n + length (listed_rows a (x ∷ xs)) = cc in absurd (omega arith)

  -- there are some
  elements_some : (x : Contents (List (ℕ × ℕ)) Fault) → CountedInto (listed_rows a) m n t x c t' → (j : ℕ) → c ≡ Ok j → (j ≡ n → ⊥) → e ≤ length s
      → ChosenInto a s n t (choice_of s k e x) (Ok (j, e)) t'
  elements_some (isnt g) (w, u, v) j d h l = let z : ◌≡◌ {A = ℕ} 0 1 = cc in absurd (omega arith)
  elements_some (is []) (w, u, v) j d h l = let z : j ≡ n + 0 = cc in absurd (omega arith)
  elements_some (is (x ∷ xs)) (w, u, v) j d h l =
      let z : j ≡ n + length (listed_rows a (x ∷ xs)) = cc in
      record { end = e; answer = ap (λ (i : ℕ). Ok (i, e)) z; inside = l; over = refl; table = u; stands = v }

module _ (a : Space) (n : ℕ) (s t : List ℕ) (r : Opening) (p : r ≡ opening_of SEQUENCE s) where
  -- no SEQUENCE
  pub list_bad : (f : Refusal) → r ≡ Err f → ChosenInto (space_number a) s n t (listed_at a n s) (Err (at 0 f)) t
  unfolding listed_at list_at
  list_bad f q = rw (tagged_bad (at 0) SEQUENCE (λ k c. filled (at 0 refusal.EmptyList) (moved k (elements_of a n c))) s f (sym p ∙ q)) (refl, omega arith, stands_still t)

  module _ (k e : ℕ) (q : r ≡ Ok (k, e)) where
    -- how many octets its contents have
    abbrev inner : ℕ
    inner = length (take (e - k) (drop k s))

    -- its elements
    abbrev elements : Contents (List (ℕ × ℕ)) Fault
    elements = elements_of a n (take (e - k) (drop k s))

    -- a SEQUENCE
    list_by : listed_at a n s ≡ choice_of s k e elements
    unfolding listed_at list_at
    list_by = rw (tagged_is (at 0) SEQUENCE (λ k c. filled (at 0 refusal.EmptyList) (moved k (elements_of a n c))) s k e (sym p ∙ q))

    module _ (t' : List ℕ) (c : Read ℕ) (h : CountedInto (listed_rows (space_number a)) (length (take (e - k) (drop k s))) n t (elements_of a n (take (e - k) (drop k s))) c t') where
      -- of which an element is refused
      pub list_isnt : (f : Fault) → c ≡ Err f → ChosenInto (space_number a) s n t (listed_at a n s) (Err (later k f)) t'
      list_isnt f d =
          let g = counted_bad (listed_rows (space_number a)) inner n t t' c elements h f d in
          rw (list_by, ← g.was) (refl, tag_place SEQUENCE s p k e q f.place g.inside, g.stands)

      -- of no element
      pub list_none : (j : ℕ) → c ≡ Ok j → j ≡ n → ChosenInto (space_number a) s n t (listed_at a n s) (Err (at 0 refusal.EmptyList)) t'
      list_none j d l = rw list_by (elements_none (space_number a) n s t t' k e inner c elements h j d l)

      -- of some
      pub list_some : (j : ℕ) → c ≡ Ok j → (j ≡ n → ⊥) → ChosenInto (space_number a) s n t (listed_at a n s) (Ok (j, e)) t'
      list_some j d l = rw list_by (elements_some (space_number a) n s t t' k e inner c elements h j d l (tag_inside SEQUENCE s p k e q))

-- EITHER

-- what s begins with
module _ (a : Space) (n : ℕ) (s t t' : List ℕ) (r : Taken ℕ) where
  -- a NULL
  pub choice_null : (x : ℕ) → get_or s 0 0 ≡ NULL → x ≡ space_number a → ChosenInto x s n t (inherit_at n s) r t' → ChosenInto (space_number a) s n t (choice_at a n s) r t'
  unfolding choice_at
  choice_null x e p h = rw (eq-eqb (get_or s 0 0) NULL e) (rw p at h)

  -- anything else
  pub choice_list : (get_or s 0 0 ≡ NULL → ⊥) → ChosenInto (space_number a) s n t (listed_at a n s) r t' → ChosenInto (space_number a) s n t (choice_at a n s) r t'
  unfolding choice_at
  choice_list e h = rw (ne_eqb (get_or s 0 0) NULL e) h
