-- IPAddrBlocks, both ways. Theorems. Assumes nothing.
--     space_laws          the OCTET STRING of a family
--     families_less, families_more     the families of a value, with the places taken out and put in
--     blocks_laws         what `read_blocks` reads was written as families in order, and what is so written is read
--     families_size, blocks_size       how long it is: at most 32,768 octets
use mathlib.Core.Path.{◌≡◌, refl, sym, ap}
use mathlib.Core.List.{List, [], ◌∷◌, ◌++◌}
use mathlib.Core.Bool.{Bool, true, false, false≢true}
use mathlib.Core.Logic.{◌⊎◌, inl, inr, ◌↔◌}
use Prim.Native.Nat.{ℕ, suc, ◌+◌, ◌-◌, ◌*◌, ◌/◌, ◌%◌, ◌≤◌, ◌<◌}
use native.Mathlib.Omega.{arith}
use lib.ListN.{length, length-append}
use lib.Dec.{ltb, leb, eqb}
use borrow.Author.Tests.{le-ltb, eq-eqb, ne_eqb, ltb-false, leb-true, eqb-true, eqb-false}
use Rattle.number.specs.Tests.{pick}
use Rattle.number.specs.Octets.{Octets}
use Rattle.number.specs.declared.refusal.Refusal.TheVariants as refusal
use Rattle.number.proofs.Picks.{below, pick_not, pick_is}
use Rattle.table.specs.Sizes.{max_rows}
use Rattle.table.specs.Spaces.{ip_kind, kind_of}
use Rattle.table.proofs.laws.Spaces.{IpSpace, kind_ip}
use Rattle.der.specs.Tags.{OCTET_STRING, SEQUENCE}
use Rattle.der.specs.Head.{element}
use Rattle.der.specs.Strings.{is_sized}
use Rattle.der.specs.Walk.{all, Run, end, then}
use Rattle.der.specs.Parts.{is, isnt}
use Rattle.der.proofs.laws.Heads.{element_longer}
use Rattle.der.proofs.laws.Walks.{Laws}
use Rattle.der.proofs.laws.Parts.{Inner, Outer, Sieve, Admits, no_is, tagged_laws, two_laws, only_laws, sifted_laws, admitted_laws, list_laws, outer_as}
use Rattle.values.specs.Limits.{max_octets}
use Rattle.values.specs.Faults.{at}
use Rattle.values.specs.Elements.{Place}
use Rattle.values.specs.Choices.{Choice, choice_rows}
use Rattle.values.specs.Blocks.{space_of, not_below, space_at, family_of, family_at, admit_family, family_step, families_of, read_blocks}
use Rattle.values.specs.Tables.{blocks_rows}
use Rattle.values.specs.Encode.{choice_octets, space_octets, family_octets}
use Rattle.values.specs.declared.elements.Space.TheVariants as space
use Rattle.values.proofs.laws.Families.{Ordered, Valid}
use Rattle.values.proofs.laws.Elements.{short}
use Rattle.values.proofs.laws.Places.{moved_inner, moved_outer, inner_as}
use Rattle.values.proofs.laws.Choices.{Chosen, choice_laws, choice_size, element_any}

-- THE SPACE

-- AFI and SAFI of a space of addresses
record Afi (a : ℕ) : Type 0 where
  pub low : 1 ≤ a / 1024
  pub high : a / 1024 ≤ 2
  pub safi : a % 1024 ≤ 256

-- they are those of the spaces of the IP kind
afi_ip : (a : ℕ) → Afi a ↔ (kind_of a ≡ ip_kind)
afi_ip a = (λ h. (kind_ip a).1 (there h (below a 2048)), λ e. back ((kind_ip a).0 e))
  where
    there : Afi a → (a < 2048) ⊎ (2048 ≤ a) → IpSpace a
    there h (inl l) = inl (omega arith)
    there h (inr l) = inr (omega arith)

    back : IpSpace a → Afi a
    back (inl h) = omega arith
    back (inr h) = omega arith

-- what was written is read
space_reads : (a : ℕ) → Afi a → space_of (space_octets a) ≡ is a
unfolding space_of space_octets is_sized
space_reads a h = go (eqb (a % 1024) 0) refl
  where
    go : (t : Bool) → eqb (a % 1024) 0 ≡ t → space_of (0 ∷ a / 1024 ∷ pick t [] ((a % 1024 - 1) ∷ [])) ≡ is a
    go true e = let z : a % 1024 ≡ 0 = eqb-true (a % 1024) 0 e in rw (le-ltb (0 * 256 + a / 1024) 1 (omega arith), le-ltb 2 (0 * 256 + a / 1024) (omega arith)) (ap is (omega arith))
    go false e = let z : a % 1024 ≡ 0 → ⊥ = eqb-false (a % 1024) 0 e in rw (le-ltb (0 * 256 + a / 1024) 1 (omega arith), le-ltb 2 (0 * 256 + a / 1024) (omega arith)) (ap is (omega arith))

-- what was read: x and y are the AFI's octets, k what comes with the SAFI
afi_was : (x y k a : ℕ) → y < 256 → k ≤ 256 → pick (ltb (x * 256 + y) 1) (isnt (at 0 refusal.Afi)) (pick (ltb 2 (x * 256 + y)) (isnt (at 0 refusal.Afi)) (is ((x * 256 + y) * 1024 + k))) ≡ is a
    → (x ≡ 0) × (y ≡ a / 1024) × (k ≡ a % 1024) × Afi a
afi_was x y k a b c h =
    let p = pick_not (ltb (x * 256 + y) 1) (is a) (isnt (at 0 refusal.Afi)) _ no_is h in
    let q = pick_not (ltb 2 (x * 256 + y)) (is a) (isnt (at 0 refusal.Afi)) _ no_is p.1 in
    let g = q.1 in
    let u = ltb-false (x * 256 + y) 1 p.0 in
    let v = ltb-false 2 (x * 256 + y) q.0 in
    let e : (x * 256 + y) * 1024 + k ≡ a = cc in
    omega arith

-- what was read was written
space_wrote : (c : List ℕ) (a : ℕ) → Octets c → space_of c ≡ is a → (c ≡ space_octets a) × Afi a
unfolding space_of space_octets is_sized Octets
space_wrote [] a b h = absurd (no_is h)
space_wrote (x ∷ []) a b h = absurd (no_is h)
space_wrote (x ∷ y ∷ []) a b h =
    let (o, p, q, f) = afi_was x y 0 a (b 1) (omega arith) h in
    (rw (eq-eqb (a % 1024) 0 (sym q)) cc, f)
space_wrote (x ∷ y ∷ z ∷ []) a b h =
    let (o, p, q, f) = afi_was x y (1 + z) a (b 1) (omega (arith, b 2)) h in
    let r : a % 1024 ≡ 0 → ⊥ = omega arith in
    let u : z ≡ a % 1024 - 1 = omega arith in
    (rw (ne_eqb (a % 1024) 0 r) cc, f)
space_wrote (x ∷ y ∷ z ∷ w ∷ c) a b h =
    let k = pick_is (is_sized (x ∷ y ∷ z ∷ w ∷ c) 2 3) (is a) _ (isnt (at 0 refusal.Contents)) no_is h in
    let l = pick_not (ltb (suc (suc (suc (suc (length c))))) 2) true false (leb (suc (suc (suc (suc (length c))))) 3) false≢true k.0 in
    absurd (omega (arith, leb-true (suc (suc (suc (suc (length c))))) 3 l.1))

-- not below the least
space_sieve : (least : ℕ) → Sieve (not_below least) (λ a. a) Afi (λ a. Afi a × (least ≤ a))
space_sieve least = record {
  there = λ a o. (rw (le-ltb a least o.1), o.0);
  back = λ x a o h.
      let k = pick_not (ltb x least) (is a) (isnt (at 0 refusal.FamilyOrder)) (is x) no_is h in
      let g = k.1 in
      let e : x ≡ a = cc in
      (e, rw (← e) (o, ltb-false x least k.0));
}

-- the OCTET STRING, both ways
pub space_laws : (least : ℕ) → Outer (space_at least) (λ a. element OCTET_STRING (space_octets a)) (λ a. (kind_of a ≡ ip_kind) × (least ≤ a))
unfolding space_at
space_laws least =
    outer_as
    (sifted_laws (tagged_laws (at 0) OCTET_STRING (λ k. record { reads = λ a h z. space_reads a h; wrote = space_wrote })) (space_sieve least))
    (λ a. (λ o. ((afi_ip a).0 o.0, o.1), λ o. ((afi_ip a).1 o.0, o.1)))

-- THE FAMILIES

-- a family that may come, where the least space may be so low, after n rows
abbrev Family : ℕ → ℕ → ℕ × Choice → Type 0
Family least n f = ((kind_of f.0 ≡ ip_kind) × (least ≤ f.0)) × Chosen (space.Addresses f.0) n f.1

-- its contents, both ways
family_inner : (least n : ℕ) → Inner (family_of least n) (λ f. element OCTET_STRING (space_octets f.0) ++ choice_octets (space.Addresses f.0) f.1) (Family least n)
unfolding family_of
family_inner least n = only_laws (λ j. at j refusal.OctetsLeft) (two_laws (space_laws least) (λ j a o. moved_outer j (choice_laws (space.Addresses a) n)))

-- and itself
family_laws : (least n : ℕ) → Outer (family_at least n) family_octets (Family least n)
unfolding family_at family_octets
family_laws least n = tagged_laws (at 0) SEQUENCE (λ k. moved_inner k (family_inner least n))

-- it has octets
family_long : (f : ℕ × Choice) → 0 < length (family_octets f)
unfolding family_octets
family_long f = omega (arith, element_longer SEQUENCE (element OCTET_STRING (space_octets f.0) ++ choice_octets (space.Addresses f.0) f.1))

-- a family that leads from one place to the next
abbrev Good : Place → ℕ × Choice → Place → Type 0
Good = Admits family_octets (λ σ. Family σ.1 σ.2) admit_family

-- a family after others, both ways
family_step_lem : Laws family_step family_octets Good
unfolding family_step
family_step_lem = admitted_laws admit_family (λ σ. moved_outer σ.0 (family_laws σ.1 σ.2)) family_long

-- how many rows there are in all
pub rows_of : (f : ℕ × Choice) (fs : List (ℕ × Choice)) → length (blocks_rows (f ∷ fs)) ≡ length (choice_rows f.0 f.1) + length (blocks_rows fs)
rows_of f fs = length-append (choice_rows f.0 f.1) (blocks_rows fs)

-- the places taken out
pub families_less : {σ σ' : Place} {fs : List (ℕ × Choice)} → Run Good σ fs σ' → Ordered ip_kind σ.1 fs × (σ.2 ≤ max_rows → σ.2 + length (blocks_rows fs) ≤ max_rows)
unfolding admit_family
families_less end = (tt, λ h. omega arith)
families_less (then {σ = σ} {σ' = τ} {x = f} {xs = fs} g t) =
    let h = g.next in
    let e : ◌≡◌ {A = Place} (σ.0 + length (family_octets f), f.0 + 1, σ.2 + length (choice_rows f.0 f.1)) τ = cc in
    let (u, v) = families_less t in
    let m : σ.2 + length (choice_rows f.0 f.1) ≡ τ.2 = ap (λ (o : Place). o.2) e in
    let l : τ.1 ≡ f.0 + 1 = sym (ap (λ (o : Place). o.1) e) in
    let c = g.ok.1.1 in
    ((g.ok.0.0, g.ok.0.1, g.ok.1.0, rw l at u), λ k. omega (arith, v (omega arith), rows_of f fs))

-- and put in
pub families_more : (fs : List (ℕ × Choice)) (p least n : ℕ) → Ordered ip_kind least fs → n + length (blocks_rows fs) ≤ max_rows → (σ : Place) × Run Good (p, least, n) fs σ
unfolding admit_family
families_more [] p least n h l = ((p, least, n), end)
families_more (f ∷ fs) p least n h l =
    let k : ℕ = length (family_octets f) in
    let r : ℕ = length (choice_rows f.0 f.1) in
    let q = rows_of f fs in
    let (σ, t) = families_more fs (p + k) (f.0 + 1) (n + r) h.3 (omega arith) in
    let g : Good (p, least, n) f (p + k, f.0 + 1, n + r) = record { ok = ((h.0, h.1), (h.2, omega arith)); next = refl } in
    (σ, then g t)

-- THE LAWS OF THE VALUE
pub blocks_laws : Inner read_blocks (λ fs. element SEQUENCE (all family_octets fs)) (Valid ip_kind 0)
unfolding read_blocks families_of
blocks_laws = only_laws (λ j. at j refusal.OctetsLeft) (tagged_laws (at 0) SEQUENCE (λ k. inner_as (moved_inner k (list_laws family_step_lem (0, 0, 0))) valid))
  where
    valid : (fs : List (ℕ × Choice)) → ((σ : Place) × Run Good (0, 0, 0) fs σ) ↔ Valid ip_kind 0 fs
    valid fs = (
      λ h. let (u, v) = families_less h.1 in record { ordered = u; few = v (omega arith); some = λ e. absurd (omega arith) },
      λ h. families_more fs 0 0 0 h.ordered h.few,
    )

-- HOW LONG IT IS

-- an OCTET STRING of at most 3 octets
pub space_few : (a : ℕ) → length (space_octets a) ≤ 3
unfolding space_octets
space_few a = go (eqb (a % 1024) 0)
  where
    go : (t : Bool) → length (0 ∷ a / 1024 ∷ pick t [] ((a % 1024 - 1) ∷ [])) ≤ 3
    go true = omega arith
    go false = omega arith

-- 53 octets for each row
pub families_size : (least : ℕ) (fs : List (ℕ × Choice)) → Ordered ip_kind least fs → length (all family_octets fs) ≤ 53 * length (blocks_rows fs)
unfolding family_octets
families_size least [] h = omega arith
families_size least (f ∷ fs) h =
    let (a, b) = choice_size (space.Addresses f.0) f.0 f.1 h.2 in
    let s = space_few f.0 in
    let e = short OCTET_STRING (space_octets f.0) (omega arith) in
    let l = length-append (element OCTET_STRING (space_octets f.0)) (choice_octets (space.Addresses f.0) f.1) in
    let k = element_any SEQUENCE (element OCTET_STRING (space_octets f.0) ++ choice_octets (space.Addresses f.0) f.1) in
    let m = length-append (element SEQUENCE (element OCTET_STRING (space_octets f.0) ++ choice_octets (space.Addresses f.0) f.1)) (all family_octets fs) in
    let p = families_size (f.0 + 1) fs h.3 in
    omega (arith, rows_of f fs)

-- so 4 + 53 * 512 octets at most
pub blocks_size : (n : ℕ) (fs : List (ℕ × Choice)) → Valid ip_kind n fs → length (element SEQUENCE (all family_octets fs)) ≤ max_octets
blocks_size n fs v = omega (arith, families_size 0 fs v.ordered, element_any SEQUENCE (all family_octets fs), v.few)
