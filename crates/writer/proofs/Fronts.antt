-- What stands in a family, or in a member, before its choice. Theorems. Assumes nothing.
--     space_two, space_three       the octets of an addressFamily, without a SAFI and with one.      space_octets_lem     they are octets
--     space_put_two, space_put_three       they are written
--     family_size, member_size     how many octets stand before a choice, by the kind
--     family_room, family_put; asnum_put, rdi_put      they are written
use mathlib.Core.Path.{◌≡◌, sym, ◌∙◌}
use mathlib.Core.List.{List, [], ◌∷◌, ◌++◌}
use mathlib.Core.Logic.{inl, inr}
use Prim.Native.Nat.{ℕ, ◌+◌, ◌-◌, ◌/◌, ◌%◌, ◌≤◌, ◌<◌}
use native.Mathlib.Omega.{arith}
use lib.Dec.{eqb}
use lib.ListN.{length, length-append}
use borrow.Author.Tests.{eq-eqb, ne_eqb}
use Rattle.number.specs.Tests.{pick}
use Rattle.table.specs.Spaces.{ip_kind, kind_of}
use Rattle.table.proofs.laws.Spaces.{IpSpace, kind_ip}
use Rattle.der.specs.Tags.{OCTET_STRING, SEQUENCE}
use Rattle.der.specs.Head.{element, head_octets, head_size}
use Rattle.der.specs.Written.{written, head_written}
use Rattle.der.proofs.laws.Heads.{head_size_lem, head_two, head_few, element_size_lem}
use Rattle.der.proofs.laws.Writing.{written_on, head_written_lem}
use Rattle.values.specs.Limits.{ASNUM, RDI, as_numbers}
use Rattle.values.specs.Encode.{space_octets, group_heads}
use Rattle.writer.specs.Writer.{choice_most, group_most, element_size}
use Rattle.writer.proofs.Pieces.{element_put}

-- an addressFamily
module _ (a : ℕ) where
  -- an AFI alone
  pub space_two : a % 1024 ≡ 0 → space_octets a ≡ 0 ∷ a / 1024 ∷ []
  unfolding space_octets
  space_two e = rw (eq-eqb (a % 1024) 0 e)

  -- with a SAFI
  pub space_three : (a % 1024 ≡ 0 → ⊥) → space_octets a ≡ 0 ∷ a / 1024 ∷ (a % 1024 - 1) ∷ []
  unfolding space_octets
  space_three e = rw (ne_eqb (a % 1024) 0 e)

  -- both are octets
  pub space_octets_lem : kind_of a ≡ ip_kind → (a / 1024 < 256) × (a % 1024 - 1 < 256)
  space_octets_lem e = go ((kind_ip a).0 e)
    where
      go : IpSpace a → (a / 1024 < 256) × (a % 1024 - 1 < 256)
      go (inl s) = omega arith
      go (inr s) = omega arith

-- the octets of an addressFamily, after the head of their element
module _ {k : ℕ} {p r : List ℕ} (out : List ℕ) (at a : ℕ) (e : k ≡ length (space_octets a)) (b : k ≤ 3) (f : at + length (element OCTET_STRING (space_octets a)) ≤ length out)
    (i : p ≡ head_written out at OCTET_STRING k) where
  -- all of them
  space_put : r ≡ written p (at + 2) (space_octets a) → r ≡ written out at (element OCTET_STRING (space_octets a))
  space_put j = element_put out at OCTET_STRING (space_octets a) (sym e) (sym (head_two k (omega arith))) f (omega arith) i j

  -- an AFI alone
  pub space_put_two : {x : ℕ} → a % 1024 ≡ 0 → x ≡ a / 1024 → r ≡ written p (at + 2) (0 ∷ x ∷ []) → r ≡ written out at (element OCTET_STRING (space_octets a))
  space_put_two {x} z g j = space_put (j ∙ rw (g, space_two a z))

  -- with a SAFI
  pub space_put_three : {x y : ℕ} → (a % 1024 ≡ 0 → ⊥) → x ≡ a / 1024 → y ≡ a % 1024 - 1 → r ≡ written p (at + 2) (0 ∷ x ∷ y ∷ []) → r ≡ written out at (element OCTET_STRING (space_octets a))
  space_put_three {x} {y} z g h j = space_put (j ∙ rw (g, h, space_three a z))

-- before a choice of n octets
module _ (kind a n : ℕ) where
  -- in a family
  family_heads : kind ≡ ip_kind → group_heads kind a n ≡ head_octets SEQUENCE (length (element OCTET_STRING (space_octets a)) + n) ++ element OCTET_STRING (space_octets a)
  unfolding group_heads
  family_heads e = rw (eq-eqb kind ip_kind e)

  -- in a member
  member_heads : (kind ≡ ip_kind → ⊥) → group_heads kind a n ≡ head_octets (pick (eqb a as_numbers) ASNUM RDI) n
  unfolding group_heads
  member_heads e = rw (ne_eqb kind ip_kind e)

-- a family: an addressFamily of k octets in an element of s, after a head of h
module _ {k s h : ℕ} (kind a n : ℕ) (e : kind ≡ ip_kind) (f : k ≡ length (space_octets a)) (b : k ≤ 3) (i : s ≡ element_size k) (j : h ≡ head_size (s + n)) where
  -- the element
  family_first : length (element OCTET_STRING (space_octets a)) ≡ s
  family_first = element_size_lem OCTET_STRING (space_octets a) ∙ rw (← f) (sym i)

  -- the head
  family_head : group_heads kind a n ≡ head_octets SEQUENCE (s + n) ++ element OCTET_STRING (space_octets a)
  family_head = family_heads kind a n e ∙ rw family_first

  -- both
  pub family_size : (h + s ≡ length (group_heads kind a n)) × (h + s ≤ group_most)
  family_size =
      let l = family_first in
      let m = head_few (s + n) in
      let o = head_two k (omega arith) in
      (rw (family_head, length-append, head_size_lem, l) (omega arith), omega arith)

  -- in their place
  module _ (out : List ℕ) (at : ℕ) (g : at + length (group_heads kind a n) ≤ length out) where
    -- there is room for them
    pub family_room : at + h + length (element OCTET_STRING (space_octets a)) ≤ length out
    family_room = omega (arith, family_first, family_size.0)

    -- and they are written
    pub family_put : {p r : List ℕ} → n ≤ choice_most → p ≡ head_written out at SEQUENCE (s + n) → r ≡ written p (at + h) (element OCTET_STRING (space_octets a)) → r ≡ written out at (group_heads kind a n)
    family_put {p} {r} c q t =
        let o = head_two k (omega arith) in
        let l : length (head_octets SEQUENCE (s + n)) ≡ h = head_size_lem SEQUENCE (s + n) ∙ sym j in
        let m : at + length (head_octets SEQUENCE (s + n)) + length (element OCTET_STRING (space_octets a)) ≤ length out = omega (arith, family_room) in
        t ∙ rw (q, head_written_lem out at SEQUENCE (s + n) (omega arith), ← l, family_head) (written_on out at (head_octets SEQUENCE (s + n)) (element OCTET_STRING (space_octets a)) m)

-- a member
module _ (kind a n : ℕ) (e : kind ≡ ip_kind → ⊥) where
  -- its head
  pub member_size : {h : ℕ} → h ≡ head_size n → (h ≡ length (group_heads kind a n)) × (h ≤ group_most)
  member_size {h} j = let m = head_few n in (rw (member_heads kind a n e, head_size_lem) j, omega arith)

  -- of asnum
  pub asnum_put : {r : List ℕ} (out : List ℕ) (at : ℕ) → n ≤ choice_most → a ≡ as_numbers → r ≡ head_written out at ASNUM n → r ≡ written out at (group_heads kind a n)
  asnum_put {r} out at b f i = i ∙ head_written_lem out at ASNUM n (omega arith) ∙ rw (member_heads kind a n e, eq-eqb a as_numbers f)

  -- of rdi
  pub rdi_put : {r : List ℕ} (out : List ℕ) (at : ℕ) → n ≤ choice_most → (a ≡ as_numbers → ⊥) → r ≡ head_written out at RDI n → r ≡ written out at (group_heads kind a n)
  rdi_put {r} out at b f i = i ∙ head_written_lem out at RDI n (omega arith) ∙ rw (member_heads kind a n e, ne_eqb a as_numbers f)
