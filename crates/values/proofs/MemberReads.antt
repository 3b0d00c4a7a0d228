-- What the functions of `identifiers` answer and leave of the table, at each of their ends. Theorems. Assumes nothing.
--     member_bad, member_isnt, member_over, member_all      `member`
--     last_isnt, last_over, last_all      `last`.      first_isnt, first_alone, first_last, first_both       `first`
--     members_first, members_last     `members`.     ids_bad, ids_none, ids_isnt, ids_over, ids_all     `read`
--     first_fits      its number
use mathlib.Core.Path.{◌≡◌, refl, sym, ap, ◌∙◌}
use mathlib.Core.List.{List, [], ◌∷◌}
use Prim.Native.Nat.{ℕ, ◌+◌, ◌-◌, ◌^◌, ◌≤◌, ◌<◌}
use native.Mathlib.Omega.{arith}
use native.Mathlib.Nat.{lt_of_le_of_lt}
use lib.ListN.{length, get_or, take, drop, length-take, length-drop}
use borrow.Author.Tests.{eq-eqb, ne_eqb}
use Rattle.number.specs.declared.refusal.Refusal.{Refusal}
use Rattle.number.specs.declared.refusal.Refusal.TheVariants as refusal
use Rattle.number.proofs.Picks.{rest_of}
use Rattle.der.specs.Tags.{SEQUENCE}
use Rattle.der.specs.Opening.{opening_of}
use Rattle.der.specs.Parts.{Contents, is, isnt, part, nopart}
use Rattle.der.proofs.laws.Heads.{opens}
use Rattle.values.specs.Faults.{Fault, at, later, moved, Read, Taken, read_after}
use Rattle.values.specs.Limits.{ASNUM, RDI, as_numbers, routing_domains}
use Rattle.values.specs.Spaces.{space_number}
use Rattle.values.specs.Choices.{Choice, choice_at, choice_rows}
use Rattle.values.specs.Identifiers.{member_of, member_at, numbers, domains, both, taken, last_of, after, first_of, members_of, some_members, read_identifiers}
use Rattle.values.specs.Tables.{identifiers_rows}
use Rattle.values.specs.Into.{CountedInto, ChosenInto}
use Rattle.values.specs.declared.elements.Space.{Space}
use Rattle.values.specs.declared.elements.Space.TheVariants as space
use Rattle.values.proofs.Joins.{tag_refused, tag_isnt, tag_took, tag_place, tag_inside}
use Rattle.values.proofs.Filling.{stands_still, stands_on, counted_is, counted_not, chosen_is, chosen_not}
use Rattle.values.proofs.Wholes.{before, only_bad, only_over, only_all}
use Rattle.values.proofs.ValueReads.{value_bad, value_none, value_isnt, value_over, value_all}
use Rattle.values.proofs.Answers.{rows_on, count_on, chosen_bad, chosen_rows, counted_bad, counted_rows}
use Rattle.der.specs.Opening.{Opening}
use Rattle.std.specs.Prelude.{Ok, Err}

-- A MEMBER

module _ (tag : ℕ) (a : Space) (n : ℕ) (s t : List ℕ) (o : Opening) (p : o ≡ opening_of tag s) where
  -- it has not the tag
  pub member_bad : (f : Refusal) → o ≡ Err f → ChosenInto (space_number a) s n t (member_at tag a n s) (Err (at 0 f)) t
  unfolding member_at
  member_bad f q = chosen_not (space_number a) s n t t _ _ (at 0 f) (sym (tag_refused tag s p _ f q).told) refl (omega arith) (stands_still t)

  module _ (k e : ℕ) (q : o ≡ Ok (k, e)) (t' : List ℕ) (r : Taken ℕ)
      (h : ChosenInto (space_number a) (take (e - k) (drop k s)) n t (choice_at a n (take (e - k) (drop k s))) r t') where
    -- what it wraps
    abbrev inner : List ℕ
    inner = take (e - k) (drop k s)

    -- a place of that is one of the member
    member_place : (f : Fault) → r ≡ Err f → k + f.place ≤ length s
    member_place f u = tag_place tag s p k e q f.place (chosen_bad (space_number a) inner n t t' r (choice_at a n inner) h f u).inside

    -- by what that is
    member_no : (f : Fault) → isnt f ≡ member_of a n inner → k + f.place ≤ length s → nopart (later k f) ≡ member_at tag a n s
    unfolding member_at
    member_no f w l = (tag_isnt tag s p k e q (λ k c. moved k (member_of a n c)) (later k f) (rw (← w) refl) l).told

    member_yes : (c : Choice) → is c ≡ member_of a n inner → part c (drop e s) ≡ member_at tag a n s
    unfolding member_at
    member_yes c w = (tag_took tag s p k e q (λ k c. moved k (member_of a n c)) c (rw (← w) refl)).told

    -- that is refused
    pub member_isnt : (f : Fault) → r ≡ Err f → ChosenInto (space_number a) s n t (member_at tag a n s) (Err (later k f)) t'
    unfolding member_of
    member_isnt f u =
        let d = chosen_bad (space_number a) inner n t t' r (choice_at a n inner) h f u in
        let l = member_place f u in
        chosen_not (space_number a) s n t t' _ _ (later k f) (sym (member_no f (only_bad (choice_at a n) inner f d.was) l)) refl l d.stands

    module _ (m j : ℕ) (u : r ≡ Ok (m, j)) where
      -- octets are left in it
      pub member_over : j < length inner → ChosenInto (space_number a) s n t (member_at tag a n s) (Err (at (k + j) refusal.OctetsLeft)) t'
      unfolding member_of
      member_over b =
          let (g, i) = chosen_rows (space_number a) inner n t t' r (choice_at a n inner) h m j u in
          let l = tag_place tag s p k e q j i in
          chosen_not (space_number a) s n t t' _ _ (at (k + j) refusal.OctetsLeft) (sym (member_no (at j refusal.OctetsLeft) (only_over (choice_at a n) inner g.read j g.was b) l)) refl l g.stands

      -- none is
      pub member_all : length inner ≤ j → ChosenInto (space_number a) s n t (member_at tag a n s) (Ok (m, e)) t'
      unfolding member_of
      member_all b =
          let (g, i) = chosen_rows (space_number a) inner n t t' r (choice_at a n inner) h m j u in
          chosen_is (space_number a) s n t t' _ _ g.read e (sym (member_yes g.read (only_all (choice_at a n) inner g.read j g.was b))) (ap (λ (x : ℕ). Ok (x, e)) g.count) (tag_inside tag s p k e q) g.table g.stands

-- [1] ALONE

module _ (n : ℕ) (s t t' : List ℕ) (r : Taken ℕ) (h : ChosenInto routing_domains s n t (member_at RDI space.RoutingDomains n s) r t') where
  -- it is refused
  pub last_isnt : (f : Fault) → r ≡ Err f → CountedInto (choice_rows routing_domains) (length s) n t (last_of n s) (Err f) t'
  unfolding last_of
  last_isnt f u =
      let d = chosen_bad routing_domains s n t t' r (member_at RDI space.RoutingDomains n s) h f u in
      counted_not (choice_rows routing_domains) (length s) n t t' _ _ f (only_bad (member_at RDI space.RoutingDomains n) s f d.was) refl d.inside d.stands

  module _ (m e : ℕ) (u : r ≡ Ok (m, e)) where
    -- octets are left
    pub last_over : e < length s → CountedInto (choice_rows routing_domains) (length s) n t (last_of n s) (Err (at e refusal.OctetsLeft)) t'
    unfolding last_of
    last_over l =
        let (g, i) = chosen_rows routing_domains s n t t' r (member_at RDI space.RoutingDomains n s) h m e u in
        counted_not (choice_rows routing_domains) (length s) n t t' _ _ (at e refusal.OctetsLeft) (only_over (member_at RDI space.RoutingDomains n) s g.read e g.was l) refl i g.stands

    -- none is
    pub last_all : length s ≤ e → CountedInto (choice_rows routing_domains) (length s) n t (last_of n s) (Ok m) t'
    unfolding last_of
    last_all l =
        let (g, i) = chosen_rows routing_domains s n t t' r (member_at RDI space.RoutingDomains n s) h m e u in
        counted_is (choice_rows routing_domains) (length s) n t t' _ _ g.read (only_all (member_at RDI space.RoutingDomains n) s g.read e g.was l) (ap Ok g.count) g.table g.stands

-- [0], AND [1] OR NOTHING

-- what comes after [0]
module _ (n m : ℕ) (c : Choice) where
  after_none : (l : List ℕ) → length l ≡ 0 → is (numbers c) ≡ after n m (part c l)
  after_none [] h = refl
  after_none (b ∷ l) h = absurd (omega arith)

  after_more : (l : List ℕ) → 0 < length l → moved (m - length l) (taken (both c) (last_of (n + length (choice_rows as_numbers c)) l)) ≡ after n m (part c l)
  after_more [] h = absurd (omega arith)
  after_more (b ∷ l) h = refl

module _ (n : ℕ) (s t t' : List ℕ) (r : Taken ℕ) (h : ChosenInto as_numbers s n t (member_at ASNUM space.AsNumbers n s) r t') where
  -- [0] is refused
  pub first_isnt : (f : Fault) → r ≡ Err f → CountedInto identifiers_rows (length s) n t (first_of n s) (Err f) t'
  unfolding first_of
  first_isnt f u =
      let d = chosen_bad as_numbers s n t t' r (member_at ASNUM space.AsNumbers n s) h f u in
      counted_not identifiers_rows (length s) n t t' (first_of n s) _ f (ap (after n (length s)) d.was) refl d.inside d.stands

  module _ (m e : ℕ) (u : r ≡ Ok (m, e)) where
    -- nothing follows
    pub first_alone : length s ≤ e → CountedInto identifiers_rows (length s) n t (first_of n s) (Ok m) t'
    unfolding first_of
    first_alone l =
        let (g, i) = chosen_rows as_numbers s n t t' r (member_at ASNUM space.AsNumbers n s) h m e u in
        counted_is identifiers_rows (length s) n t t' (first_of n s) _ (numbers g.read) (after_none n (length s) g.read (drop e s) (rw length-drop (omega arith)) ∙ ap (after n (length s)) g.was) (ap Ok g.count) g.table g.stands

    module _ (l : e < length s) (t'' : List ℕ) (z : Read ℕ)
        (y : CountedInto (choice_rows routing_domains) (length (take (length s - e) (drop e s))) m t' (last_of m (take (length s - e) (drop e s))) z t'') where
      -- [1] begins there
      here : CountedInto (choice_rows routing_domains) (length (drop e s)) m t' (last_of m (drop e s)) z t''
      here = rw rest_of at y

      -- by what it is
      first_by : (c : Choice) → part c (drop e s) ≡ member_at ASNUM space.AsNumbers n s → m ≡ n + length (choice_rows as_numbers c) → moved e (taken (both c) (last_of m (drop e s))) ≡ first_of n s
      unfolding first_of
      first_by c w q = rw (before e s (omega arith), ← q) at (after_more n (length s) c (drop e s) (rw length-drop (omega arith))) ∙ ap (after n (length s)) w

      -- its place
      first_place : (f : Fault) → z ≡ Err f → e + f.place ≤ length s
      first_place f v =
          let d = counted_bad (choice_rows routing_domains) (length (drop e s)) m t' t'' z (last_of m (drop e s)) here f v in
          let b : f.place ≤ length s - e = rw length-drop at d.inside in
          omega arith

      pub first_fits : (f : Fault) → z ≡ Err f → length s < 2 ^ 64 → e + f.place < 2 ^ 64
      first_fits f v = lt_of_le_of_lt (first_place f v)

      -- it is refused
      pub first_last : (f : Fault) → z ≡ Err f → CountedInto identifiers_rows (length s) n t (first_of n s) (Err (later e f)) t''
      first_last f v =
          let (g, i) = chosen_rows as_numbers s n t t' r (member_at ASNUM space.AsNumbers n s) h m e u in
          let d = counted_bad (choice_rows routing_domains) (length (drop e s)) m t' t'' z (last_of m (drop e s)) here f v in
          counted_not identifiers_rows (length s) n t t'' (first_of n s) _ (later e f) (ap (λ (o : Contents Choice Fault). moved e (taken (both g.read) o)) d.was ∙ first_by g.read g.was g.count) refl (first_place f v) (stands_on g.stands d.stands)

      -- both are there
      pub first_both : (k : ℕ) → z ≡ Ok k → CountedInto identifiers_rows (length s) n t (first_of n s) (Ok k) t''
      first_both k v =
          let (g, i) = chosen_rows as_numbers s n t t' r (member_at ASNUM space.AsNumbers n s) h m e u in
          let d = counted_rows (choice_rows routing_domains) (length (drop e s)) m t' t'' z (last_of m (drop e s)) here k v in
          let c = g.read in
          let b = d.read in
          counted_is identifiers_rows (length s) n t t'' (first_of n s) _ (both c b) (ap (λ (o : Contents Choice Fault). moved e (taken (both c) o)) d.was ∙ first_by c g.was g.count) (ap Ok (count_on n (choice_rows as_numbers c) (choice_rows routing_domains b) g.count d.count))
          (rows_on t n (choice_rows as_numbers c) (choice_rows routing_domains b) g.table g.count d.table) (stands_on g.stands d.stands)

      -- either, as it is handed on
      pub first_after : CountedInto identifiers_rows (length s) n t (first_of n s) (read_after e z) t''
      first_after = go z refl
        where
          go : (x : Read ℕ) → z ≡ x → CountedInto identifiers_rows (length s) n t (first_of n s) (read_after e x) t''
          go (Ok k) v = first_both k v
          go (Err f) v = first_last f v

-- THE MEMBERS

module _ (n : ℕ) (s t t' : List ℕ) (r : Read ℕ) where
  -- [0] is there
  pub members_first : get_or s 0 0 ≡ ASNUM → CountedInto identifiers_rows (length s) n t (first_of n s) r t' → CountedInto identifiers_rows (length s) n t (members_of n s) r t'
  unfolding members_of
  members_first e h = rw (eq-eqb (get_or s 0 0) ASNUM e) h

  -- the rows of [1]
  as_domains : (o : Contents Choice Fault) → CountedInto (choice_rows routing_domains) (length s) n t o r t' → CountedInto identifiers_rows (length s) n t (taken domains o) r t'
  as_domains (is c) h = h
  as_domains (isnt f) h = h

  -- it is not
  pub members_last : (get_or s 0 0 ≡ ASNUM → ⊥) → CountedInto (choice_rows routing_domains) (length s) n t (last_of n s) r t' → CountedInto identifiers_rows (length s) n t (members_of n s) r t'
  unfolding members_of
  members_last e h = rw (ne_eqb (get_or s 0 0) ASNUM e) (as_domains (last_of n s) h)

-- THE VALUE

module _ (n : ℕ) (v t : List ℕ) (o : Opening) (p : o ≡ opening_of SEQUENCE v) where
  -- there is no SEQUENCE
  pub ids_bad : (f : Refusal) → o ≡ Err f → CountedInto identifiers_rows (length v) n t (read_identifiers n v) (Err (at 0 f)) t
  unfolding read_identifiers
  ids_bad f q = value_bad identifiers_rows (some_members n) n v t o p f q

  module _ (k e : ℕ) (q : o ≡ Ok (k, e)) where
    -- its contents
    abbrev contents : List ℕ
    contents = take (e - k) (drop k v)

    -- which reach from k to e
    contents_size : length contents ≡ e - k
    contents_size = let i = opens SEQUENCE v k e p q in simp (length-take, length-drop) (omega (arith, i.order, i.inside))

    -- there are none
    pub ids_none : k ≡ e → CountedInto identifiers_rows (length v) n t (read_identifiers n v) (Err (at 0 refusal.EmptyList)) t
    unfolding read_identifiers some_members
    ids_none z =
        let l : length contents ≡ 0 = contents_size ∙ omega arith in
        value_none identifiers_rows (some_members n) n v t o p k e q refusal.EmptyList (rw (eq-eqb (length contents) 0 l))

    module _ (z : k ≡ e → ⊥) (t' : List ℕ) (r : Read ℕ) (h : CountedInto identifiers_rows (length contents) n t (members_of n contents) r t') where
      -- there are some
      some : some_members n k contents ≡ moved k (members_of n contents)
      unfolding some_members
      some =
          let i = opens SEQUENCE v k e p q in
          rw (ne_eqb (length contents) 0 (λ y. z (omega (arith, contents_size, i.order))))

      -- they are refused
      pub ids_isnt : (f : Fault) → r ≡ Err f → CountedInto identifiers_rows (length v) n t (read_identifiers n v) (Err (later k f)) t'
      unfolding read_identifiers
      ids_isnt f u = value_isnt identifiers_rows (some_members n) n v t o p k e q (members_of n contents) some t' r h f u

      -- octets are left
      pub ids_over : (m : ℕ) → r ≡ Ok m → e < length v → CountedInto identifiers_rows (length v) n t (read_identifiers n v) (Err (at e refusal.OctetsLeft)) t'
      unfolding read_identifiers
      ids_over m u l = value_over identifiers_rows (some_members n) n v t o p k e q (members_of n contents) some t' r h m u l

      -- none is
      pub ids_all : (m : ℕ) → r ≡ Ok m → length v ≤ e → CountedInto identifiers_rows (length v) n t (read_identifiers n v) (Ok m) t'
      unfolding read_identifiers
      ids_all m u l = value_all identifiers_rows (some_members n) n v t o p k e q (members_of n contents) some t' r h m u l
