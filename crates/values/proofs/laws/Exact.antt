-- A VALUE IS ACCEPTED EXACTLY IF IT IS THE ONE ENCODING OF A TABLE THAT DOCUMENT 01 ALLOWS. Theorems. Assumes nothing.
--     ip_reads, as_reads            what a table is encoded as is read
--     ip_exact                      for IPAddrBlocks
--     as_exact, as_exact_after      for ASIdentifiers, by itself and after n rows
--     exact                         for either
--     read_written, write_read      what is encoded is read, and what was read is encoded, as the same
--     one_encoding, one_value       no two tables have one encoding, and no two values are one table's
--     encode_size, encode_octets    an encoding is 1 to 32,768 octets
use mathlib.Core.Path.{◌≡◌, refl, sym, ap, ◌∙◌}
use mathlib.Core.List.{List}
use mathlib.Core.Logic.{◌⊎◌, inl, inr, ◌↔◌}
use Prim.Native.Nat.{ℕ, ◌+◌, ◌≤◌}
use native.Mathlib.Omega.{arith}
use lib.ListN.{length}
use lib.Dec.{eqb}
use Rattle.number.specs.Tests.{pick}
use Rattle.number.specs.Octets.{Octets}
use Rattle.table.specs.Sizes.{max_rows}
use Rattle.table.specs.Spaces.{ip_kind, as_kind}
use Rattle.table.specs.Rows.{Row}
use Rattle.table.specs.Tables.{Allowed}
use Rattle.der.specs.Tags.{SEQUENCE}
use Rattle.der.specs.Head.{element}
use Rattle.der.specs.Walk.{all}
use Rattle.der.specs.Parts.{Contents, is, isnt}
use Rattle.der.proofs.laws.Heads.{element_longer}
use Rattle.der.proofs.laws.Parts.{no_is}
use Rattle.values.specs.Limits.{max_octets}
use Rattle.values.specs.Faults.{Fault}
use Rattle.values.specs.Choices.{Choice}
use Rattle.values.specs.Blocks.{read_blocks}
use Rattle.values.specs.Identifiers.{Identifiers, read_identifiers}
use Rattle.values.specs.Tables.{blocks_rows, identifiers_rows, tabled, ip_rows, as_rows}
use Rattle.values.specs.Encode.{grouped, family_octets, member_octets, encode}
use Rattle.values.proofs.laws.Families.{Valid}
use Rattle.values.proofs.laws.Blocks.{blocks_laws, blocks_size}
use Rattle.values.proofs.laws.Identifiers.{members, members_rows, valid_members, identifiers_laws, identifiers_size}
use Rattle.values.proofs.laws.Octets.{family_octets_lem, member_octets_lem, value_octets_lem}
use Rattle.values.proofs.laws.Groups.{tidy_marked, rows_grouped, grouped_rows, rows_valid, valid_rows}

-- the rows of what was read
tabled_was : {X : Type 0} (rows : X → List Row) (o : Contents X Fault) (t : List Row) → tabled rows o ≡ is t → (x : X) × (o ≡ is x) × (rows x ≡ t)
tabled_was rows (isnt e) t h = absurd (no_is h)
tabled_was rows (is x) t h = (x, refl, cc)

-- IPADDRBLOCKS

-- a kind
ip_kind_lem : ip_kind ≡ 0 → ⊥
ip_kind_lem e = omega arith

-- what a table is encoded as is read
pub ip_reads : (t : List Row) → Allowed ip_kind t → ip_rows (encode ip_kind t) ≡ is t
unfolding ip_rows encode
ip_reads t h =
    let v = rows_valid ip_kind ip_kind_lem 0 t h (omega (arith, h.few)) in
    let s = blocks_size 0 (grouped t) v in
    rw (blocks_laws.reads (grouped t) v (omega arith)) (ap is (rows_grouped (tidy_marked h.tidy)))

-- what is read was encoded
ip_wrote : (v : List ℕ) (t : List Row) → Octets v → ip_rows v ≡ is t → Allowed ip_kind t × (v ≡ encode ip_kind t)
unfolding ip_rows encode
ip_wrote v t b h = let (fs, e, q) = tabled_was blocks_rows (read_blocks v) t h in go fs e q
  where
    go : (fs : List (ℕ × Choice)) → read_blocks v ≡ is fs → blocks_rows fs ≡ t → Allowed ip_kind t × (v ≡ encode ip_kind t)
    go fs e q =
        let (i, o) = blocks_laws.wrote v fs b e in
        rw (← q) (valid_rows ip_kind ip_kind_lem 0 fs o, i ∙ rw (grouped_rows ip_kind 0 fs o.ordered))

-- EXACTLY
pub ip_exact : (v : List ℕ) (t : List Row) → Octets v → (ip_rows v ≡ is t) ↔ (Allowed ip_kind t × (v ≡ encode ip_kind t))
ip_exact v t b = (ip_wrote v t b, λ h. rw h.1 (ip_reads t h.0))

-- ASIDENTIFIERS

-- a kind
as_kind_lem : as_kind ≡ 0 → ⊥
as_kind_lem e = omega arith

-- what a table is encoded as is read, after n rows
pub as_reads : (n : ℕ) (t : List Row) → Allowed as_kind t → n + length t ≤ max_rows → as_rows n (encode as_kind t) ≡ is t
unfolding as_rows encode
as_reads n t h l =
    let v = rows_valid as_kind as_kind_lem n t h l in
    let (i, e) = valid_members n (grouped t) v in
    go i e v
  where
    go : (i : Identifiers) → grouped t ≡ members i → Valid as_kind n (grouped t) → tabled identifiers_rows (read_identifiers n (element SEQUENCE (all member_octets (grouped t)))) ≡ is t
    go i e v =
        let s = identifiers_size n (members i) (rw e at v) in
        rw (e, (identifiers_laws n).reads i (rw e at v) (omega arith)) (ap is (sym (members_rows i) ∙ rw (← e) (rows_grouped (tidy_marked h.tidy))))

-- what is read was encoded
as_wrote : (n : ℕ) (v : List ℕ) (t : List Row) → Octets v → as_rows n v ≡ is t → Allowed as_kind t × (v ≡ encode as_kind t) × (n + length t ≤ max_rows)
unfolding as_rows encode
as_wrote n v t b h = let (i, e, q) = tabled_was identifiers_rows (read_identifiers n v) t h in go i e (members_rows i ∙ q)
  where
    go : (i : Identifiers) → read_identifiers n v ≡ is i → blocks_rows (members i) ≡ t → Allowed as_kind t × (v ≡ encode as_kind t) × (n + length t ≤ max_rows)
    go i e q =
        let (s, o) = (identifiers_laws n).wrote v i b e in
        rw (← q) (valid_rows as_kind as_kind_lem n (members i) o, s ∙ rw (grouped_rows as_kind 0 (members i) o.ordered), o.few)

-- EXACTLY, after n rows: "The AS value's rows are counted on from the IP rows."
pub as_exact_after : (n : ℕ) (v : List ℕ) (t : List Row) → Octets v → (as_rows n v ≡ is t) ↔ (Allowed as_kind t × (v ≡ encode as_kind t) × (n + length t ≤ max_rows))
as_exact_after n v t b = (as_wrote n v t b, λ h. rw h.1 (as_reads n t h.0 h.2))

-- and by itself
pub as_exact : (v : List ℕ) (t : List Row) → Octets v → (as_rows 0 v ≡ is t) ↔ (Allowed as_kind t × (v ≡ encode as_kind t))
as_exact v t b = (
  λ h. let (a, e, l) = as_wrote 0 v t b h in (a, e),
  λ h. (as_exact_after 0 v t b).1 (h.0, h.1, omega (arith, h.0.few)),
)

-- EITHER VALUE

-- "kind not 1 (IP) or 2 (AS)" is the writer's refusal 19
abbrev pub Kind : ℕ → Type 0
Kind kind = (kind ≡ ip_kind) ⊎ (kind ≡ as_kind)

-- the rows of a value of the kind, by itself
unfoldable pub value_rows : ℕ → List ℕ → Contents (List Row) Fault
value_rows kind v = pick (eqb kind ip_kind) (ip_rows v) (as_rows 0 v)

-- EXACTLY
pub exact : (kind : ℕ) (v : List ℕ) (t : List Row) → Kind kind → Octets v → (value_rows kind v ≡ is t) ↔ (Allowed kind t × (v ≡ encode kind t))
unfolding value_rows
exact kind v t (inl e) b = rw e (ip_exact v t b)
exact kind v t (inr e) b = rw e (as_exact v t b)

-- what a table is encoded as is read as that table
pub read_written : (kind : ℕ) (t : List Row) → Kind kind → Allowed kind t → value_rows kind (encode kind t) ≡ is t
unfolding value_rows
read_written kind t (inl e) h = rw e (ip_reads t (rw e at h))
read_written kind t (inr e) h = rw e (as_reads 0 t (rw e at h) (omega (arith, h.few)))

-- what was read is encoded as the same octets
pub write_read : (kind : ℕ) (v : List ℕ) (t : List Row) → Kind kind → Octets v → value_rows kind v ≡ is t → encode kind t ≡ v
write_read kind v t k b h = sym ((exact kind v t k b).0 h).1

-- so no two tables have one encoding,
pub one_encoding : (kind : ℕ) (t u : List Row) → Kind kind → Allowed kind t → Allowed kind u → encode kind t ≡ encode kind u → t ≡ u
one_encoding kind t u k h g e =
    let p = read_written kind t k h in
    let q = read_written kind u k g in
    cc

-- and no two values are one table's
pub one_value : (kind : ℕ) (v w : List ℕ) (t : List Row) → Kind kind → Octets v → Octets w → value_rows kind v ≡ is t → value_rows kind w ≡ is t → v ≡ w
one_value kind v w t k b d h g = sym (write_read kind v t k b h) ∙ write_read kind w t k d g

-- "extension value: 1 to 32,768 octets"
pub encode_size : (kind : ℕ) (t : List Row) → Kind kind → Allowed kind t → (1 ≤ length (encode kind t)) × (length (encode kind t) ≤ max_octets)
unfolding encode
encode_size kind t (inl e) h =
    let s = blocks_size 0 (grouped t) (rows_valid ip_kind ip_kind_lem 0 t (rw e at h) (omega (arith, h.few))) in
    let l = element_longer SEQUENCE (all family_octets (grouped t)) in
    rw e (omega arith)
encode_size kind t (inr e) h =
    let s = identifiers_size 0 (grouped t) (rows_valid as_kind as_kind_lem 0 t (rw e at h) (omega (arith, h.few))) in
    let l = element_longer SEQUENCE (all member_octets (grouped t)) in
    rw e (omega arith)

-- and they are octets
pub encode_octets : (kind : ℕ) (t : List Row) → Kind kind → Allowed kind t → Octets (encode kind t)
unfolding encode
encode_octets kind t (inl e) h =
    let v = rows_valid ip_kind ip_kind_lem 0 t (rw e at h) (omega (arith, h.few)) in
    let s = blocks_size 0 (grouped t) v in
    rw e (value_octets_lem ip_kind family_octets family_octets_lem (grouped t) v.ordered (omega arith))
encode_octets kind t (inr e) h =
    let v = rows_valid as_kind as_kind_lem 0 t (rw e at h) (omega (arith, h.few)) in
    let s = identifiers_size 0 (grouped t) v in
    rw e (value_octets_lem as_kind member_octets member_octets_lem (grouped t) v.ordered (omega arith))
