-- Families as the writer passes them: an open list in front of what is written. Theorems. Assumes nothing.
--     open_of, tail      the open list at the front of families, and the octets behind its heads
--     size_tail, open_own       its size, and its space
--     split             its heads and those octets are the octets of all families
--     tail_turn, open_turn      one row more: its own octets, then the heads that it closes
--     groups_more, groups_few   families with a row more are longer, by at most 53 octets
use mathlib.Core.Path.{◌≡◌, refl, sym, ap, ◌∙◌}
use mathlib.Core.List.{List, [], ◌∷◌, ◌++◌, append_assoc, append-nil}
use mathlib.Core.Bool.{Bool, true, false}
use Prim.Native.Nat.{ℕ, ◌+◌, ◌^◌, ◌≤◌, ◌<◌}
use native.Mathlib.Omega.{arith}
use lib.ListN.{length, length-append}
use lib.Dec.{eqb}
use borrow.Author.Tests.{eqb-true, eqb-false}
use Rattle.std.specs.Prelude.{Option, Some, None, IfSome}
use Rattle.number.specs.Tests.{pick}
use Rattle.number.specs.Halves.{bits}
use Rattle.table.specs.Spaces.{mixed_kind, ip_kind, kind_of, width_of}
use Rattle.table.specs.Rows.{Row}
use Rattle.table.proofs.laws.Spaces.{space_above_zero}
use Rattle.der.specs.Tags.{SEQUENCE, NULL}
use Rattle.der.specs.Head.{head_octets, head_size}
use Rattle.der.specs.Walk.{all}
use Rattle.der.proofs.laws.Heads.{head_size_lem, head_few, element_size_lem}
use Rattle.der.proofs.laws.Writing.{element_is}
use Rattle.values.specs.Limits.{as_numbers}
use Rattle.values.specs.Choices.{Choice, inherit, listed}
use Rattle.values.specs.Encode.{element_octets, space_for, before, joined, row_octets, group_octets, group_heads}
use Rattle.values.specs.declared.elements.Space.TheVariants as space
use Rattle.values.proofs.laws.Statements.{bits_in, Fits}
use Rattle.values.proofs.laws.Elements as elements
use Rattle.writer.specs.Writer.{row_most, heads_most, element_size}
use Rattle.writer.specs.Families.{frame, size_in, open_heads, joins, closing, own, onward, Own}
use Rattle.writer.specs.declared.families.Open.{Open}
use Rattle.writer.proofs.laws.Groups.{head_more, heads_few, heads_more, group_is}

abbrev pub Families : Type 0
Families = List (ℕ × Choice)

-- the octets of a list's elements, and of families
abbrev pub elements_of : ℕ → ℕ → List (ℕ × ℕ) → List ℕ
elements_of kind a xs = all (element_octets (space_for kind a)) xs

abbrev pub groups : ℕ → Families → List ℕ
groups kind fs = all (group_octets kind) fs

-- the open list in front of families
abbrev open_by : ℕ → ℕ → Choice → Option Open
open_by kind a inherit = None
open_by kind a (listed xs) = Some (record { space = a; size = length (elements_of kind a xs) })

unfoldable pub open_of : ℕ → Families → Option Open
open_of kind [] = None
open_of kind (f ∷ fs) = open_by kind f.0 f.1

-- what is written behind its heads
abbrev tail_by : ℕ → ℕ → Choice → Families → List ℕ
tail_by kind a inherit fs = group_octets kind (a, inherit) ++ groups kind fs
tail_by kind a (listed xs) fs = elements_of kind a xs ++ groups kind fs

unfoldable pub tail : ℕ → Families → List ℕ
tail kind [] = []
tail kind (f ∷ fs) = tail_by kind f.0 f.1 fs

-- a row in front of families
unfoldable pub onto : Row → Families → Families
onto r fs = pick (eqb r.inherit 1) ((r.space, inherit) ∷ fs) (before r.space (r.low, r.high) fs)

-- the first space is of the kind
pub data Owned (kind : ℕ) : Families → Type 0 where
  no_first : Owned kind []
  first : {f : ℕ × Choice} {fs : Families} → kind_of f.0 ≡ kind → Owned kind (f ∷ fs)

-- one of a kind is not 0
pub not_zero : (kind a : ℕ) → (kind ≡ mixed_kind → ⊥) → kind_of a ≡ kind → a ≡ 0 → ⊥
not_zero kind a n e z = let h : 1024 ≤ a = space_above_zero a (λ q. n (sym e ∙ q)) in omega arith

-- a family that lists: its heads, and its elements
listed_is : (kind a : ℕ) (xs : List (ℕ × ℕ)) → group_octets kind (a, listed xs) ≡ frame kind a SEQUENCE (length (elements_of kind a xs)) ++ elements_of kind a xs
unfolding frame
listed_is kind a xs =
    let c = elements_of kind a xs in
    group_is kind a (listed xs) ∙ rw (element_size_lem SEQUENCE c, element_is SEQUENCE c, append_assoc (group_heads kind a (element_size (length c))) (head_octets SEQUENCE (length c)) c)

-- the open list has no more octets than there are behind its heads
pub size_tail : (kind : ℕ) (fs : Families) → size_in (open_of kind fs) ≤ length (tail kind fs)
unfolding open_of tail
size_tail kind [] = omega arith
size_tail kind (f ∷ fs) = go f.0 f.1
  where
    go : (a : ℕ) (c : Choice) → size_in (open_by kind a c) ≤ length (tail_by kind a c fs)
    go a inherit = omega arith
    go a (listed xs) = omega (arith, length-append (elements_of kind a xs) (groups kind fs))

-- and its space, if there is one, is of the kind
pub open_own : (kind : ℕ) (fs : Families) → Owned kind fs → IfSome (open_of kind fs) (λ o. kind_of o.space ≡ kind)
unfolding open_of
open_own kind [] u = tt
open_own kind (f ∷ fs) (first e) = go f.0 f.1 e
  where
    go : (a : ℕ) (c : Choice) → kind_of a ≡ kind → IfSome (open_by kind a c) (λ o. kind_of o.space ≡ kind)
    go a inherit e = tt
    go a (listed xs) e = e

-- HEADS

-- how many octets they are, whatever the tag is
pub frame_size : (kind a tag n : ℕ) → length (frame kind a tag n) ≡ length (group_heads kind a (element_size n)) + head_size n
unfolding frame
frame_size kind a tag n = omega (arith, length-append (group_heads kind a (element_size n)) (head_octets tag n), head_size_lem tag n)

-- they are few
pub frame_few : (kind a tag n : ℕ) → length (frame kind a tag n) ≤ heads_most
frame_few kind a tag n = omega (arith, frame_size kind a tag n, heads_few kind a (element_size n), head_few n)

pub open_few : (kind : ℕ) (list : Option Open) → length (open_heads kind list) ≤ heads_most
unfolding open_heads
open_few kind None = omega arith
open_few kind (Some o) = frame_few kind o.space SEQUENCE o.size

-- a longer list has no shorter ones
open_more : (kind a m n : ℕ) → m ≤ n → length (frame kind a SEQUENCE m) ≤ length (frame kind a SEQUENCE n)
open_more kind a m n h =
    let k = head_more m n h in
    let l : element_size m ≤ element_size n = omega arith in
    omega (arith, frame_size kind a SEQUENCE m, frame_size kind a SEQUENCE n, heads_more kind a (element_size m) (element_size n) l)

-- an inherit row's family is nothing but heads
pub inherit_is : (kind a : ℕ) → group_octets kind (a, inherit) ≡ frame kind a NULL 0
unfolding frame
inherit_is kind a = group_is kind a inherit ∙ rw (element_size_lem NULL [], element_is NULL [], append-nil)

module _ (kind : ℕ) where
  -- THE HEADS OF THE OPEN LIST AND WHAT IS BEHIND THEM ARE ALL FAMILIES
  pub split : (fs : Families) → Owned kind fs → groups kind fs ≡ open_heads kind (open_of kind fs) ++ tail kind fs
  unfolding open_of tail open_heads
  split [] o = refl
  split (f ∷ fs) (first e) = go f.0 f.1 e
    where
      go : (a : ℕ) (c : Choice) → kind_of a ≡ kind → group_octets kind (a, c) ++ groups kind fs ≡ open_heads kind (open_by kind a c) ++ tail_by kind a c fs
      go a inherit e = refl
      go a (listed xs) e =
          let c = elements_of kind a xs in
          rw (listed_is kind a xs, append_assoc (frame kind a SEQUENCE (length c)) c (groups kind fs))

  module _ (r : Row) (e : kind_of r.space ≡ kind) where
    -- a row in front makes the first family one of its space
    pub owned_turn : (fs : Families) → Owned kind (onto r fs)
    unfolding onto
    owned_turn fs = go (eqb r.inherit 1) fs
      where
        joins_it : (d : Bool) (b : ℕ) (rs : List (ℕ × ℕ)) (gs : Families)
            → Owned kind (pick d ((r.space, listed ((r.low, r.high) ∷ rs)) ∷ gs) ((r.space, listed ((r.low, r.high) ∷ [])) ∷ (b, listed rs) ∷ gs))
        joins_it true b rs gs = first e
        joins_it false b rs gs = first e

        meets : (b : ℕ) (c : Choice) (gs : Families) → Owned kind (joined r.space (r.low, r.high) b c gs)
        meets b inherit gs = first e
        meets b (listed rs) gs = joins_it (eqb r.space b) b rs gs

        go : (d : Bool) (fs : Families) → Owned kind (pick d ((r.space, inherit) ∷ fs) (before r.space (r.low, r.high) fs))
        go true fs = first e
        go false [] = first e
        go false (f ∷ fs) = meets f.0 f.1 fs

    -- ONE ROW MORE: what is behind the heads
    pub tail_turn : (fs : Families) → Owned kind fs → tail kind (onto r fs) ≡ own kind r ++ (closing kind (open_of kind fs) r ++ tail kind fs)
    unfolding tail onto own closing joins open_of open_heads row_octets
    tail_turn fs o = go (eqb r.inherit 1) refl fs o
      where
        -- a list of its own, before any families
        alone : (gs : Families) → elements_of kind r.space ((r.low, r.high) ∷ []) ++ groups kind gs ≡ row_octets kind r ++ groups kind gs
        alone gs = rw append-nil

        meets : eqb r.inherit 1 ≡ false → (b : ℕ) (c : Choice) (gs : Families) → kind_of b ≡ kind → (d : Bool) → eqb r.space b ≡ d
            → tail kind (onto r ((b, c) ∷ gs)) ≡ own kind r ++ (closing kind (open_of kind ((b, c) ∷ gs)) r ++ tail kind ((b, c) ∷ gs))
        meets h b inherit gs u d q = rw h (alone ((b, inherit) ∷ gs))
        meets h b (listed rs) gs u true q =
            rw (h, q) (append_assoc (element_octets (space_for kind r.space) (r.low, r.high)) (elements_of kind r.space rs) (groups kind gs) ∙ ap (λ (z : ℕ). row_octets kind r ++ (elements_of kind z rs ++ groups kind gs)) (eqb-true r.space b q))
        meets h b (listed rs) gs u false q = rw (h, q) (alone ((b, listed rs) ∷ gs) ∙ rw (split ((b, listed rs) ∷ gs) (first u)))

        go : (d : Bool) → eqb r.inherit 1 ≡ d → (fs : Families) → Owned kind fs → tail kind (onto r fs) ≡ own kind r ++ (closing kind (open_of kind fs) r ++ tail kind fs)
        go true h fs o = rw (h, split fs o)
        go false h [] o = rw h (alone [])
        go false h (f ∷ fs) (first u) = meets h f.0 f.1 fs u (eqb r.space f.0) refl

    -- and the open list
    pub open_turn : (fs : Families) → open_of kind (onto r fs) ≡ onward (open_of kind fs) r (length (own kind r))
    unfolding onto own open_of onward row_octets
    open_turn fs = go (eqb r.inherit 1) refl fs
      where
        -- its size
        sized : (n m : ℕ) → n ≡ m → ◌≡◌ {A = Option Open} (Some (record { space = r.space; size = n })) (Some (record { space = r.space; size = m }))
        sized n m q = ap (λ (k : ℕ). Some (record { space = r.space; size = k })) q

        alone : length (elements_of kind r.space ((r.low, r.high) ∷ [])) ≡ length (row_octets kind r)
        alone = rw append-nil

        meets : eqb r.inherit 1 ≡ false → (b : ℕ) (c : Choice) (gs : Families) → (d : Bool) → eqb r.space b ≡ d → open_of kind (onto r ((b, c) ∷ gs)) ≡ onward (open_of kind ((b, c) ∷ gs)) r (length (own kind r))
        meets h b inherit gs d q = rw h (sized _ _ alone)
        meets h b (listed rs) gs true q =
            let k : length (elements_of kind r.space rs) ≡ length (elements_of kind b rs) = ap (λ (z : ℕ). length (elements_of kind z rs)) (eqb-true r.space b q) in
            rw (h, q) (sized _ _ (omega (arith, length-append (element_octets (space_for kind r.space) (r.low, r.high)) (elements_of kind r.space rs))))
        meets h b (listed rs) gs false q = rw (h, q) (sized _ _ alone)

        go : (d : Bool) → eqb r.inherit 1 ≡ d → (fs : Families) → open_of kind (onto r fs) ≡ onward (open_of kind fs) r (length (own kind r))
        go true h fs = rw h
        go false h [] = rw h (sized _ _ alone)
        go false h (f ∷ fs) = meets h f.0 f.1 fs (eqb r.space f.0) refl

-- HOW MANY OCTETS

-- a row's own octets
pub own_few : (kind : ℕ) (r : Row) → Own kind r → length (own kind r) ≤ row_most
unfolding own row_octets
own_few kind r o = go (eqb r.inherit 1) refl
  where
    inherited : length (group_octets kind (r.space, inherit)) ≤ row_most
    inherited = rw (inherit_is kind r.space) (omega (arith, frame_few kind r.space NULL 0))

    -- numbers of the width that the list of the space asks
    lists : (d c : Bool) → r.low ≤ r.high → r.high < 2 ^ pick d (bits (width_of r.space)) 32
        → Fits (bits_in (pick d (space.Addresses r.space) (pick c space.AsNumbers space.RoutingDomains))) (r.low, r.high)
    lists true c p f = record { order = p; fits = f }
    lists false true p f = record { order = p; fits = f }
    lists false false p f = record { order = p; fits = f }

    go : (d : Bool) → eqb r.inherit 1 ≡ d → length (pick d (group_octets kind (r.space, inherit)) (row_octets kind r)) ≤ row_most
    go true q = inherited
    go false q =
        let l = o.lists (eqb-false r.inherit 1 q) in
        elements.element_size_lem (space_for kind r.space) (r.low, r.high) (lists (eqb kind ip_kind) (eqb r.space as_numbers) l.order l.fits)

-- the heads behind a row are those of the open list, or none
closing_few : (kind : ℕ) (list : Option Open) (r : Row) → length (closing kind list r) ≤ length (open_heads kind list)
unfolding closing
closing_few kind list r = go (joins list r)
  where
    go : (d : Bool) → length (pick d [] (open_heads kind list)) ≤ length (open_heads kind list)
    go true = omega arith
    go false = omega arith

-- none only where the row joins the list, whose heads are still to come
heads_kept : (kind : ℕ) (list : Option Open) (r : Row) (n : ℕ) → length (open_heads kind list) ≤ length (open_heads kind (onward list r n)) + length (closing kind list r)
unfolding closing joins onward open_heads
heads_kept kind None r n = omega arith
heads_kept kind (Some o) r n = go (eqb r.inherit 1) refl (eqb r.space o.space) refl
  where
    go : (d : Bool) → eqb r.inherit 1 ≡ d → (c : Bool) → eqb r.space o.space ≡ c → length (open_heads kind (Some o)) ≤ length (open_heads kind (onward (Some o) r n)) + length (closing kind (Some o) r)
    go true p c q = rw p (omega arith)
    go false p true q = rw (p, q, eqb-true r.space o.space q) (omega (arith, open_more kind o.space o.size (o.size + n) (omega arith)))
    go false p false q = rw (p, q) (omega arith)

module _ (kind : ℕ) (r : Row) (o : Own kind r) (fs : Families) (u : Owned kind fs) where
  -- families with a row more, by the octets of their parts
  parts : length (groups kind (onto r fs)) ≡ length (open_heads kind (onward (open_of kind fs) r (length (own kind r)))) + length (own kind r) + length (closing kind (open_of kind fs) r) + length (tail kind fs)
  parts =
      rw (split kind (onto r fs) (owned_turn kind r o.own fs), tail_turn kind r o.own fs u, open_turn kind r o.own fs)
      (simp length-append (omega arith))

  -- and those without it
  whole_is : length (groups kind fs) ≡ length (open_heads kind (open_of kind fs)) + length (tail kind fs)
  whole_is = rw (split kind fs u) (length-append (open_heads kind (open_of kind fs)) (tail kind fs))

  -- they are longer
  pub groups_more : length (groups kind fs) ≤ length (groups kind (onto r fs))
  groups_more = omega (arith, parts, whole_is, heads_kept kind (open_of kind fs) r (length (own kind r)))

  -- and by 53 octets at most
  pub groups_few : length (groups kind (onto r fs)) ≤ 53 + length (groups kind fs)
  groups_few = omega (arith, parts, whole_is, open_few kind (onward (open_of kind fs) r (length (own kind r))), own_few kind r o, closing_few kind (open_of kind fs) r)
