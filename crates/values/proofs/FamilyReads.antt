-- What the functions of `blocks` answer and leave of the table, at each of their ends. Theorems. Assumes nothing.
--     family_space, family_choice, family_over, family_all      `family_of`.     blocks_bad, blocks_isnt, blocks_over, blocks_all      `read`
--     space_end      its number
use mathlib.Core.Path.{◌≡◌, refl, ap}
use mathlib.Core.List.{List}
use Prim.Native.Nat.{ℕ, ◌+◌, ◌-◌, ◌≤◌, ◌<◌}
use native.Mathlib.Omega.{arith}
use lib.ListN.{length, take, drop, length-drop}
use Rattle.number.specs.declared.refusal.Refusal.{Refusal}
use Rattle.number.specs.declared.refusal.Refusal.TheVariants as refusal
use Rattle.number.proofs.Picks.{rest_of}
use Rattle.der.specs.Tags.{SEQUENCE}
use Rattle.der.specs.Opening.{opening_of}
use Rattle.der.specs.Parts.{Contents, Part, part, nopart}
use Rattle.values.specs.Faults.{Fault, at, moved, later}
use Rattle.values.specs.Choices.{Choice, choice_at, choice_rows}
use Rattle.values.specs.Blocks.{space_at, family_of, families_of, read_blocks}
use Rattle.values.specs.Tables.{blocks_rows}
use Rattle.values.specs.Seen.{Reached, space_seen, SpaceIn}
use Rattle.values.specs.Into.{CountedInto, ChosenInto, FamilyInto}
use Rattle.values.specs.declared.elements.Space.TheVariants as space
use Rattle.values.proofs.Filling.{stands_still, family_is, family_not}
use Rattle.values.proofs.Wholes.{only_bad, only_over, only_all, paired, two_first, two_second, two_both}
use Rattle.values.proofs.Answers.{Granted, chosen_bad, chosen_rows}
use Rattle.values.proofs.ValueReads.{value_bad, value_isnt, value_over, value_all}
use Rattle.der.specs.Opening.{Opening}
use Rattle.std.specs.Prelude.{Ok, Err}
use Rattle.values.specs.Faults.{Read, Taken}

-- A FAMILY

-- the bounds of its space
module _ (m : ℕ) (a : Taken ℕ) (i : SpaceIn m a) (x k : ℕ) (e : a ≡ Ok (x, k)) where
  space_in : (x ≤ 4095) × Reached m k
  space_in = rw e at i

  pub space_end : k ≤ m
  space_end = space_in.1.1

module _ (least n : ℕ) (s t : List ℕ) (a : Taken ℕ) (p : space_seen s a ≡ space_at least s) (i : SpaceIn (length s) a) where
  -- its choice
  abbrev next : ℕ → List ℕ → Part Choice Fault
  next x rest = choice_at (space.Addresses x) n rest

  -- its space is refused
  pub family_space : (f : Fault) → a ≡ Err f → FamilyInto (length s) n t (family_of least n s) (Err f) t
  unfolding family_of
  family_space f e =
      let w : nopart f ≡ space_at least s = rw e at p in
      let l : f.place ≤ length s = rw e at i in
      family_not (length s) n t t _ _ f (only_bad (paired (space_at least) next) s f (two_first (space_at least) next s f w)) refl l (stands_still t)

  module _ (x k : ℕ) (e : a ≡ Ok (x, k)) where
    -- its space is read
    space_is : part x (drop k s) ≡ space_at least s
    space_is = rw e at p

    -- up to here
    upto : k ≤ length s
    upto = space_end (length s) a i x k e

    module _ (t' : List ℕ) (r : Taken ℕ) (h : ChosenInto x (take (length s - k) (drop k s)) n t (next x (take (length s - k) (drop k s))) r t') where
      -- its choice begins there
      here : ChosenInto x (drop k s) n t (next x (drop k s)) r t'
      here = rw rest_of at h

      -- a place of the choice is one of the family
      choice_place : (f : Fault) → r ≡ Err f → k + f.place ≤ length s
      choice_place f u =
          let d = chosen_bad x (drop k s) n t t' r (next x (drop k s)) here f u in
          let l : f.place ≤ length s - k = rw length-drop at d.inside in
          omega (arith, upto)

      -- its choice is refused
      pub family_choice : (f : Fault) → r ≡ Err f → FamilyInto (length s) n t (family_of least n s) (Err (later k f)) t'
      unfolding family_of
      family_choice f u =
          let d = chosen_bad x (drop k s) n t t' r (next x (drop k s)) here f u in
          family_not (length s) n t t' _ _ (later k f)
          (only_bad (paired (space_at least) next) s (later k f) (two_second (space_at least) next s x k space_is upto f d.was))
          refl (choice_place f u) d.stands

      module _ (m j : ℕ) (u : r ≡ Ok (m, j)) where
        -- both elements were read
        both_read : Granted (choice_rows x) (λ c. part (x, c) (drop (k + j) s)) (paired (space_at least) next s) n m t t'
        both_read =
            let (g, l) = chosen_rows x (drop k s) n t t' r (next x (drop k s)) here m j u in
            record { read = g.read; was = two_both (space_at least) next s x k space_is upto g.read j g.was; count = g.count; table = g.table; stands = g.stands }

        -- octets are left
        pub family_over : j < length (take (length s - k) (drop k s)) → FamilyInto (length s) n t (family_of least n s) (Err (at (k + j) refusal.OctetsLeft)) t'
        unfolding family_of
        family_over l =
            let g = both_read in
            let b : j < length s - k = rw (rest_of k s, length-drop) at l in
            let z : k + j < length s = omega arith in
            family_not (length s) n t t' _ _ (at (k + j) refusal.OctetsLeft) (only_over (paired (space_at least) next) s (x, g.read) (k + j) g.was z) refl (omega arith) g.stands

        -- none is
        pub family_all : length (take (length s - k) (drop k s)) ≤ j → FamilyInto (length s) n t (family_of least n s) (Ok (x, m)) t'
        unfolding family_of
        family_all l =
            let g = both_read in
            let b : length s - k ≤ j = rw (rest_of k s, length-drop) at l in
            let z : length s ≤ k + j = omega arith in
            family_is (length s) n t t' _ _ x g.read (only_all (paired (space_at least) next) s (x, g.read) (k + j) g.was z) (ap (λ (i : ℕ). Ok (x, i)) g.count) (space_in (length s) a i x k e).0 g.table g.stands

-- THE VALUE

module _ (v t : List ℕ) (o : Opening) (p : o ≡ opening_of SEQUENCE v) where
  -- the contents of its SEQUENCE, k octets further on
  abbrev inner : ℕ → List ℕ → Contents (List (ℕ × Choice)) Fault
  inner k c = moved k (families_of c)

  -- there is no SEQUENCE
  pub blocks_bad : (f : Refusal) → o ≡ Err f → CountedInto blocks_rows (length v) 0 t (read_blocks v) (Err (at 0 f)) t
  unfolding read_blocks
  blocks_bad f q = value_bad blocks_rows inner 0 v t o p f q

  module _ (k e : ℕ) (q : o ≡ Ok (k, e)) (t' : List ℕ) (r : Read ℕ) (h : CountedInto blocks_rows (length (take (e - k) (drop k v))) 0 t (families_of (take (e - k) (drop k v))) r t') where
    -- they are refused
    pub blocks_isnt : (f : Fault) → r ≡ Err f → CountedInto blocks_rows (length v) 0 t (read_blocks v) (Err (later k f)) t'
    unfolding read_blocks
    blocks_isnt f u = value_isnt blocks_rows inner 0 v t o p k e q (families_of (take (e - k) (drop k v))) refl t' r h f u

    -- octets are left
    pub blocks_over : (m : ℕ) → r ≡ Ok m → e < length v → CountedInto blocks_rows (length v) 0 t (read_blocks v) (Err (at e refusal.OctetsLeft)) t'
    unfolding read_blocks
    blocks_over m u l = value_over blocks_rows inner 0 v t o p k e q (families_of (take (e - k) (drop k v))) refl t' r h m u l

    -- none is
    pub blocks_all : (m : ℕ) → r ≡ Ok m → length v ≤ e → CountedInto blocks_rows (length v) 0 t (read_blocks v) (Ok m) t'
    unfolding read_blocks
    blocks_all m u l = value_all blocks_rows inner 0 v t o p k e q (families_of (take (e - k) (drop k v))) refl t' r h m u l
