-- ASIdentifiers, both ways. Theorems. Assumes nothing.
--     members             the members of a value as families, and that they have its rows (`members_rows`)
--     valid_members       families of AS numbers and routing domain identifiers, in order, are the members of some value
--     identifiers_laws    what `read_identifiers` reads was written as members in order, and what is so written is read
--     identifiers_size    how long it is: at most 32,768 octets
use mathlib.Core.Path.{◌≡◌, refl, sym, ap, ap₂, ◌∙◌}
use mathlib.Core.List.{List, [], ◌∷◌, ◌++◌, append-nil}
use mathlib.Core.Bool.{Bool, true, false}
use mathlib.Core.Logic.{inl, inr, ◌↔◌}
use Prim.Native.Nat.{ℕ, ◌+◌, ◌-◌, ◌*◌, ◌≤◌}
use native.Mathlib.Omega.{arith}
use lib.ListN.{length, get_or, length-append}
use lib.Dec.{eqb}
use borrow.Author.Tests.{ne_eqb}
use Rattle.number.specs.Tests.{pick}
use Rattle.number.specs.Halves.{bits}
use Rattle.number.specs.Octets.{Octets}
use Rattle.number.specs.declared.refusal.Refusal.TheVariants as refusal
use Rattle.number.proofs.Picks.{pick_not}
use Rattle.table.specs.Sizes.{max_rows}
use Rattle.table.specs.Spaces.{as_kind, between, kind_of, width_of}
use Rattle.table.specs.Rows.{Row}
use Rattle.table.proofs.laws.Spaces.{AsSpace, kind_as}
use Rattle.der.specs.Tags.{SEQUENCE}
use Rattle.der.specs.Head.{element}
use Rattle.der.specs.Walk.{all}
use Rattle.der.specs.Parts.{Contents, is, isnt, Part, part, nopart}
use Rattle.der.proofs.Tails.{octets_right}
use Rattle.der.proofs.laws.Heads.{Sized, element_longer, tag_first}
use Rattle.der.proofs.laws.Parts.{Inner, Outer, no_is, tagged_laws, only_laws}
use Rattle.values.specs.Limits.{ASNUM, RDI, as_numbers, routing_domains, max_octets}
use Rattle.values.specs.Faults.{Fault, at}
use Rattle.values.specs.Choices.{Choice, choice_rows}
use Rattle.values.specs.Identifiers.{member_of, member_at, Identifiers, numbers, domains, both, taken, last_of, after, first_of, members_of, some_members, read_identifiers}
use Rattle.values.specs.Tables.{blocks_rows, identifiers_rows}
use Rattle.values.specs.Encode.{choice_octets, member_octets}
use Rattle.values.specs.declared.elements.Space.{Space}
use Rattle.values.specs.declared.elements.Space.TheVariants as space
use Rattle.values.proofs.laws.Families.{Lists, Ordered, Valid}
use Rattle.values.proofs.laws.Places.{moved_was, moved_inner, inner_as, inner_written}
use Rattle.values.proofs.laws.Choices.{Chosen, choice_laws, choice_size, element_any}
use Rattle.values.proofs.laws.Blocks.{rows_of}

-- A MEMBER

-- its octets
abbrev asnum : Choice → List ℕ
asnum c = element ASNUM (choice_octets space.AsNumbers c)

-- and those of the other
abbrev rdi : Choice → List ℕ
rdi c = element RDI (choice_octets space.RoutingDomains c)

-- a member, both ways
member_laws : (tag : ℕ) (a : Space) (n : ℕ) → Outer (member_at tag a n) (λ c. element tag (choice_octets a c)) (Chosen a n)
unfolding member_at member_of
member_laws tag a n = tagged_laws (at 0) tag (λ k. moved_inner k (only_laws (λ j. at j refusal.OctetsLeft) (choice_laws a n)))

-- [1], with nothing after it, both ways
last_laws : (n : ℕ) → Inner (last_of n) rdi (Chosen space.RoutingDomains n)
unfolding last_of
last_laws n = only_laws (λ j. at j refusal.OctetsLeft) (member_laws RDI space.RoutingDomains n)

-- THE MEMBERS

-- their octets
abbrev octets_of : Identifiers → List ℕ
octets_of (numbers c) = asnum c
octets_of (domains d) = rdi d
octets_of (both c d) = asnum c ++ rdi d

-- what they may be, after n rows
abbrev Good : ℕ → Identifiers → Type 0
Good n (numbers c) = Chosen space.AsNumbers n c
Good n (domains d) = Chosen space.RoutingDomains n d
Good n (both c d) = Chosen space.AsNumbers n c × Chosen space.RoutingDomains (n + length (choice_rows as_numbers c)) d

-- what was taken for members
taken_was : (f : Choice → Identifiers) (o : Contents Choice Fault) (i : Identifiers) → taken f o ≡ is i → (c : Choice) × (o ≡ is c) × (i ≡ f c)
taken_was f (isnt e) i h = absurd (no_is h)
taken_was f (is c) i h = (c, refl, cc)

-- the first tag
tag_only : (t : ℕ) (c : List ℕ) → get_or (element t c) 0 0 ≡ t
tag_only t c = ap (λ (l : List ℕ). get_or l 0 0) (sym (append-nil (element t c))) ∙ tag_first t c []

-- they are some
some_octets : (i : Identifiers) → length (octets_of i) ≡ 0 → ⊥
some_octets (numbers c) e = omega (arith, element_longer ASNUM (choice_octets space.AsNumbers c))
some_octets (domains d) e = omega (arith, element_longer RDI (choice_octets space.RoutingDomains d))
some_octets (both c d) e = omega (arith, element_longer ASNUM (choice_octets space.AsNumbers c), length-append (asnum c) (rdi d))

module _ (n : ℕ) where
  -- what came after [0]
  after_was : (s : List ℕ) (o : Part Choice Fault) (i : Identifiers) → Octets s → member_at ASNUM space.AsNumbers n s ≡ o → after n (length s) o ≡ is i → (s ≡ octets_of i) × Good n i
  after_was s (nopart e) i b q h = absurd (no_is h)
  after_was s (part c []) i b q h =
      let e : numbers c ≡ i = cc in
      let (g, o) = (member_laws ASNUM space.AsNumbers n).wrote s c [] b q in
      rw (← e) (g ∙ append-nil (asnum c), o)
  after_was s (part c (x ∷ rest)) i b q h =
      let (g, o) = (member_laws ASNUM space.AsNumbers n).wrote s c (x ∷ rest) b q in
      let m : ℕ = n + length (choice_rows as_numbers c) in
      let (d, u, v) = taken_was (both c) (last_of (n + length (choice_rows as_numbers c)) (x ∷ rest)) i (moved_was (length s - length (x ∷ rest)) _ i h) in
      let (j, k) = (last_laws (n + length (choice_rows as_numbers c))).wrote (x ∷ rest) d (octets_right (asnum c) (x ∷ rest) (rw g at b)) u in
      rw v (rw j at g, (o, k))

  -- [1] after it is read
  after_both : (m : ℕ) (c d : Choice) (rest : List ℕ) → rest ≡ rdi d → Chosen space.RoutingDomains (n + length (choice_rows as_numbers c)) d → Sized (rdi d) → after n m (part c rest) ≡ is (both c d)
  after_both m c d [] e o z = absurd (omega (arith, ap length e, element_longer RDI (choice_octets space.RoutingDomains d)))
  after_both m c d (x ∷ rest) e o z = rw (e, (last_laws (n + length (choice_rows as_numbers c))).reads d o z)

  -- what was written is read
  members_read : (i : Identifiers) → Good n i → Sized (octets_of i) → members_of n (octets_of i) ≡ is i
  unfolding members_of first_of
  members_read (numbers c) o z =
      let e : member_at ASNUM space.AsNumbers n (asnum c) ≡ part c [] = ap (member_at ASNUM space.AsNumbers n) (sym (append-nil (asnum c))) ∙ (member_laws ASNUM space.AsNumbers n).reads c [] o z in
      rw (tag_only ASNUM (choice_octets space.AsNumbers c), e)
  members_read (domains d) o z = rw (tag_only RDI (choice_octets space.RoutingDomains d), (last_laws n).reads d o z)
  members_read (both c d) o z =
      let l = length-append (asnum c) (rdi d) in
      rw (tag_first ASNUM (choice_octets space.AsNumbers c) (rdi d), (member_laws ASNUM space.AsNumbers n).reads c (rdi d) o.0 (omega arith))
      (after_both (length (asnum c ++ rdi d)) c d (rdi d) refl o.1 (omega arith))

  -- what is read was written
  members_wrote : (s : List ℕ) (i : Identifiers) → Octets s → members_of n s ≡ is i → (s ≡ octets_of i) × Good n i
  unfolding members_of first_of
  members_wrote s i b h = go (eqb (get_or s 0 0) ASNUM) h
    where
      go : (t : Bool) → pick t (after n (length s) (member_at ASNUM space.AsNumbers n s)) (taken domains (last_of n s)) ≡ is i → (s ≡ octets_of i) × Good n i
      go true h = after_was s (member_at ASNUM space.AsNumbers n s) i b refl h
      go false h = let (d, u, v) = taken_was domains (last_of n s) i h in rw v ((last_laws n).wrote s d b u)

  -- a value has at least one
  some_inner : (k : ℕ) → Inner (some_members n k) octets_of (Good n)
  unfolding some_members
  some_inner k = record {
    reads = λ i o z. rw (ne_eqb (length (octets_of i)) 0 (some_octets i), members_read i o z);
    wrote = λ c i b h. let (e, g) = pick_not (eqb (length c) 0) (is i) (isnt (at 0 refusal.EmptyList)) _ no_is h in members_wrote c i b (moved_was k (members_of n c) i g);
  }

-- THE MEMBERS AS FAMILIES
abbrev pub members : Identifiers → List (ℕ × Choice)
members (numbers c) = (as_numbers, c) ∷ []
members (domains d) = (routing_domains, d) ∷ []
members (both c d) = (as_numbers, c) ∷ (routing_domains, d) ∷ []

-- they have the same rows
pub members_rows : (i : Identifiers) → blocks_rows (members i) ≡ identifiers_rows i
members_rows (numbers c) = append-nil (choice_rows as_numbers c)
members_rows (domains d) = append-nil (choice_rows routing_domains d)
members_rows (both c d) = ap (λ (l : List Row). choice_rows as_numbers c ++ l) (append-nil (choice_rows routing_domains d))

-- and octets
members_octets : (i : Identifiers) → octets_of i ≡ all member_octets (members i)
unfolding member_octets
members_octets (numbers c) = sym (append-nil (asnum c))
members_octets (domains d) = sym (append-nil (rdi d))
members_octets (both c d) = ap (λ (l : List ℕ). asnum c ++ l) (sym (append-nil (rdi d)))

-- and are as they must be
good_valid : (n : ℕ) (i : Identifiers) → Good n i ↔ Valid as_kind n (members i)
unfolding kind_of width_of between
good_valid n (numbers c) = (
  λ h. record { ordered = (refl, omega arith, h.0, tt); few = rw (append-nil (choice_rows as_numbers c)) h.1; some = λ e. omega arith },
  λ v. (v.ordered.2, rw (append-nil (choice_rows as_numbers c)) at v.few),
)
good_valid n (domains d) = (
  λ h. record { ordered = (refl, omega arith, h.0, tt); few = rw (append-nil (choice_rows routing_domains d)) h.1; some = λ e. omega arith },
  λ v. (v.ordered.2, rw (append-nil (choice_rows routing_domains d)) at v.few),
)
good_valid n (both c d) =
    let l = length-append (choice_rows as_numbers c) (choice_rows routing_domains d) in
    let e = append-nil (choice_rows routing_domains d) in (
      λ h. record { ordered = (refl, omega arith, h.0.0, (refl, omega arith, h.1.0, tt)); few = rw e (omega (arith, h.1.1)); some = λ q. omega arith },
      λ v. let f : n + length (choice_rows as_numbers c ++ choice_rows routing_domains d) ≤ max_rows = rw e at v.few in ((v.ordered.2, omega arith), (v.ordered.3.2, omega arith)),
    )

-- THE LAWS OF THE VALUE
pub identifiers_laws : (n : ℕ) → Inner (read_identifiers n) (λ i. element SEQUENCE (all member_octets (members i))) (λ i. Valid as_kind n (members i))
unfolding read_identifiers
identifiers_laws n = only_laws (λ j. at j refusal.OctetsLeft) (tagged_laws (at 0) SEQUENCE (λ k. inner_written (inner_as (some_inner n k) (good_valid n)) members_octets))

-- routing domain identifiers come after AS numbers
as_order : {s t : ℕ} → AsSpace s → AsSpace t → s + 1 ≤ t → (s ≡ as_numbers) × (t ≡ routing_domains)
as_order (inl e) (inl q) l = absurd (omega arith)
as_order (inl e) (inr q) l = (e, q)
as_order (inr e) (inl q) l = absurd (omega arith)
as_order (inr e) (inr q) l = absurd (omega arith)

-- families of AS numbers and routing domain identifiers, in order, are the members of some value
pub valid_members : (n : ℕ) (fs : List (ℕ × Choice)) → Valid as_kind n fs → (i : Identifiers) × (fs ≡ members i)
valid_members n [] v = absurd (omega (arith, v.some refl))
valid_members n (f ∷ []) v = go ((kind_as f.0).0 v.ordered.0)
  where
    go : AsSpace f.0 → (i : Identifiers) × (f ∷ [] ≡ members i)
    go (inl e) = (numbers f.1, ap (λ (s : ℕ). (s, f.1) ∷ []) e)
    go (inr e) = (domains f.1, ap (λ (s : ℕ). (s, f.1) ∷ []) e)
valid_members n (f ∷ g ∷ []) v =
    let (e, q) = as_order ((kind_as f.0).0 v.ordered.0) ((kind_as g.0).0 v.ordered.3.0) v.ordered.3.1 in
    (both f.1 g.1, ap₂ (λ (s t : ℕ). (s, f.1) ∷ (t, g.1) ∷ []) e q)
valid_members n (f ∷ g ∷ h ∷ fs) v =
    let k = (kind_as g.0).0 v.ordered.3.0 in
    let (e, q) = as_order ((kind_as f.0).0 v.ordered.0) k v.ordered.3.1 in
    let (i, j) = as_order k ((kind_as h.0).0 v.ordered.3.3.0) v.ordered.3.3.1 in
    absurd (omega arith)

-- HOW LONG IT IS

-- "AS numbers and routing domain identifiers have upper half 0"
pub as_width : (s : ℕ) → kind_of s ≡ as_kind → bits (width_of s) ≡ 32
unfolding width_of between
as_width s e = go ((kind_as s).0 e)
  where
    go : AsSpace s → bits (width_of s) ≡ 32
    go (inl q) = rw q
    go (inr q) = rw q

-- 48 octets for each row
member_size : (f : ℕ × Choice) → kind_of f.0 ≡ as_kind → Lists (bits (width_of f.0)) f.1 → length (member_octets f) ≤ 48 * length (choice_rows f.0 f.1)
unfolding member_octets
member_size f e h = go (eqb f.0 as_numbers) (rw (as_width f.0 e) at h)
  where
    go : (t : Bool) → Lists 32 f.1 → length (pick t (asnum f.1) (rdi f.1)) ≤ 48 * length (choice_rows f.0 f.1)
    go true o = let (a, b) = choice_size space.AsNumbers f.0 f.1 o in omega (arith, element_any ASNUM (choice_octets space.AsNumbers f.1))
    go false o = let (a, b) = choice_size space.RoutingDomains f.0 f.1 o in omega (arith, element_any RDI (choice_octets space.RoutingDomains f.1))

-- in all members
members_size : (least : ℕ) (fs : List (ℕ × Choice)) → Ordered as_kind least fs → length (all member_octets fs) ≤ 48 * length (blocks_rows fs)
members_size least [] h = omega arith
members_size least (f ∷ fs) h = omega (arith, member_size f h.0 h.2, length-append (member_octets f) (all member_octets fs), members_size (f.0 + 1) fs h.3, rows_of f fs)

-- so 4 + 48 * 512 octets at most
pub identifiers_size : (n : ℕ) (fs : List (ℕ × Choice)) → Valid as_kind n fs → length (element SEQUENCE (all member_octets fs)) ≤ max_octets
identifiers_size n fs v = omega (arith, members_size 0 fs v.ordered, element_any SEQUENCE (all member_octets fs), v.few)
