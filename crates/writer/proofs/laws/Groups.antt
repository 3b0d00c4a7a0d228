-- A family, or a member: its heads and its choice, and how many octets they are. Theorems. Assumes nothing.
--     group_is      its heads, then its choice
--     heads_few      heads are short.       choice_size      a choice by the size of what it lists
--     group-more    a longer list has a longer family
use mathlib.Core.Path.{◌≡◌, refl, ◌∙◌}
use mathlib.Core.List.{◌++◌, append_assoc}
use mathlib.Core.Bool.{Bool, true, false}
use Prim.Native.Nat.{ℕ, ◌+◌, ◌≤◌}
use native.Mathlib.Omega.{arith}
use lib.ListN.{length, length-append}
use lib.Dec.{ltb, eqb}
use borrow.Author.Tests.{lt-ltb, ltb-true, ltb-false}
use Rattle.number.specs.Tests.{pick}
use Rattle.table.specs.Spaces.{ip_kind}
use Rattle.der.specs.Tags.{OCTET_STRING, SEQUENCE}
use Rattle.der.specs.Head.{element, head_octets, head_size}
use Rattle.der.proofs.laws.Heads.{head_size_lem, head_few, element_size_lem}
use Rattle.der.proofs.laws.Writing.{element_is}
use Rattle.values.proofs.laws.Blocks.{space_few}
use Rattle.values.specs.Limits.{ASNUM, RDI, as_numbers}
use Rattle.values.specs.Choices.{Choice}
use Rattle.values.specs.Encode.{choice_octets, space_octets, family_octets, member_octets, space_for, group_octets, group_heads}
use Rattle.values.specs.declared.elements.Space.TheVariants as space
use Rattle.writer.specs.Writer.{group_most}

-- more octets have no shorter head
pub head_more : (m n : ℕ) → m ≤ n → head_size m ≤ head_size n
unfolding head_size
head_more m n h = go (ltb m 128) refl (ltb m 256) refl (ltb n 128) refl (ltb n 256) refl
  where
    go : (a : Bool) → ltb m 128 ≡ a → (b : Bool) → ltb m 256 ≡ b → (c : Bool) → ltb n 128 ≡ c → (d : Bool) → ltb n 256 ≡ d → pick a 2 (pick b 3 4) ≤ pick c 2 (pick d 3 4)
    go true e b f true g d i = omega arith
    go true e b f false g true i = omega arith
    go true e b f false g false i = omega arith
    go false e b f true g d i = absurd (omega (arith, ltb-true, ltb-false m 128 e, ltb-true n 128 g))
    go false e true f false g true i = omega arith
    go false e true f false g false i = omega arith
    go false e false f false g true i = absurd (omega (arith, ltb-false m 256 f, ltb-true n 256 i))
    go false e false f false g false i = omega arith

-- an addressFamily as an element
first_few : (a : ℕ) → length (element OCTET_STRING (space_octets a)) ≤ 5
unfolding head_size
first_few a = let h = space_few a in omega (arith, rw (lt-ltb (length (space_octets a)) 128 (omega arith)) at (element_size_lem OCTET_STRING (space_octets a)))

module _ (kind a : ℕ) where
  -- before a choice stand at most nine octets
  pub heads_few : (n : ℕ) → length (group_heads kind a n) ≤ group_most
  unfolding group_heads
  heads_few n = go (eqb kind ip_kind)
    where
      go : (b : Bool)
          → length (pick b (head_octets SEQUENCE (length (element OCTET_STRING (space_octets a)) + n) ++ element OCTET_STRING (space_octets a)) (head_octets (pick (eqb a as_numbers) ASNUM RDI) n)) ≤ group_most
      go true =
          let m = length (element OCTET_STRING (space_octets a)) + n in
          omega (arith, length-append (head_octets SEQUENCE m) (element OCTET_STRING (space_octets a)), first_few a, head_size_lem SEQUENCE m, head_few m)
      go false = omega (arith, head_size_lem (pick (eqb a as_numbers) ASNUM RDI) n, head_few n)

  -- more octets of choice have no shorter heads
  pub heads_more : (m n : ℕ) → m ≤ n → length (group_heads kind a m) ≤ length (group_heads kind a n)
  unfolding group_heads
  heads_more m n h = go (eqb kind ip_kind)
    where
      go : (b : Bool)
          → length (pick b (head_octets SEQUENCE (length (element OCTET_STRING (space_octets a)) + m) ++ element OCTET_STRING (space_octets a)) (head_octets (pick (eqb a as_numbers) ASNUM RDI) m))
          ≤ length (pick b (head_octets SEQUENCE (length (element OCTET_STRING (space_octets a)) + n) ++ element OCTET_STRING (space_octets a)) (head_octets (pick (eqb a as_numbers) ASNUM RDI) n))
      go true =
          let e = element OCTET_STRING (space_octets a) in
          let i = length e + m in
          let j = length e + n in
          let k : i ≤ j = omega arith in
          omega (arith, length-append (head_octets SEQUENCE i) e, length-append (head_octets SEQUENCE j) e, head_size_lem SEQUENCE i, head_size_lem SEQUENCE j, head_more i j k)
      go false =
          let t = pick (eqb a as_numbers) ASNUM RDI in
          omega (arith, head_size_lem t m, head_size_lem t n, head_more m n h)

  -- a family, or a member, is its heads and its choice
  pub group_is : (c : Choice) → group_octets kind (a, c) ≡ group_heads kind a (length (choice_octets (space_for kind a) c)) ++ choice_octets (space_for kind a) c
  unfolding group_octets group_heads family_octets member_octets
  group_is c = go (eqb kind ip_kind) refl (eqb a as_numbers) refl
    where
      go : (b : Bool) → eqb kind ip_kind ≡ b → (d : Bool) → eqb a as_numbers ≡ d → group_octets kind (a, c) ≡ group_heads kind a (length (choice_octets (space_for kind a) c)) ++ choice_octets (space_for kind a) c
      go true e d f =
          let s = element OCTET_STRING (space_octets a) in
          let u = choice_octets (space.Addresses a) c in
          rw e (element_is SEQUENCE (s ++ u) ∙ rw (length-append s u, append_assoc (head_octets SEQUENCE (length s + length u)) s u))
      go false e true f = rw (e, f) (element_is ASNUM (choice_octets space.AsNumbers c))
      go false e false f = rw (e, f) (element_is RDI (choice_octets space.RoutingDomains c))
