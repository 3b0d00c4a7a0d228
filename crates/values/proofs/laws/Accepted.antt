-- A READER ACCEPTS A VALUE EXACTLY IF IT IS THE ENCODING OF AN ALLOWED TABLE, and leaves that table's rows: the theorems of laws/Exact, said of the reply and the lent table. Theorems. Assumes nothing.
--     Accepted                       a reply without refusal, and what it leaves
--     ip_accepts, ip_accepted        the reader of IPAddrBlocks accepts each encoding, and nothing else
--     as_accepts, as_accepted        the reader of ASIdentifiers
use mathlib.Core.Path.{◌≡◌, refl, sym, ap, ◌∙◌}
use mathlib.Core.List.{List}
use mathlib.Core.Logic.{inl, inr}
use Prim.Native.Nat.{ℕ, ◌≤◌}
use native.Mathlib.Omega.{arith}
use lib.ListN.{length}
use lib.Dec.{ltb, eqb}
use borrow.Author.Tests.{le-ltb, ne_eqb, ltb-false}
use Rattle.number.specs.Octets.{Octets}
use Rattle.number.specs.declared.refusal.Refusal.TheVariants as refusal
use Rattle.number.proofs.Picks.{pick_not}
use Rattle.table.specs.Sizes.{table_numbers}
use Rattle.table.specs.Spaces.{ip_kind, as_kind}
use Rattle.table.specs.Rows.{Row, with_rows, cleared}
use Rattle.table.specs.Tables.{Allowed}
use Rattle.table.proofs.laws.Rows.{length-cleared}
use Rattle.der.specs.Parts.{Contents, is, isnt}
use Rattle.values.specs.Limits.{ip_extension, as_extension, max_octets}
use Rattle.values.specs.Faults.{Fault, at}
use Rattle.values.specs.Tables.{ip_rows, as_rows}
use Rattle.values.specs.Encode.{encode}
use Rattle.values.specs.Readings.{Left, short, refused_with, settled, step_of, step_ip, step_as, alone, read_ip, read_as}
use Rattle.values.specs.declared.readings.Refused.{Refused}
use Rattle.values.proofs.laws.Exact.{ip_reads, as_reads, ip_exact, as_exact, encode_size}
use Rattle.std.specs.Prelude.{Ok, Err}

-- the reply counts the rows, and the table t has them and then zeros
abbrev pub Accepted : List ℕ → List Row → Left
Accepted t rows = (Ok (length rows), with_rows (cleared table_numbers t) 0 rows)

-- a refusal is no such reply
not_rows : {f : Refused} {n : ℕ} → Err f ≡ Ok n → ⊥
not_rows h = let z : ◌≡◌ {A = ℕ} 0 1 = cc in omega arith

-- whatever table is beside it
no_rows : (f : Refused) (t u : List ℕ) (n : ℕ) → ◌≡◌ {A = Left} (Err f, t) (Ok n, u) → ⊥
no_rows f t u n h = not_rows (ap (λ (l : Left). l.0) h)

-- rows that were written
settled_was : (extension : ℕ) (o : Contents (List Row) Fault) (t u : List ℕ) (n : ℕ) → settled extension 0 o t ≡ (Ok n, u) → (rows : List Row) × (o ≡ is rows) × (settled extension 0 o t ≡ (Ok (length rows), with_rows t 0 rows))
settled_was extension (isnt f) t u n h = absurd (no_rows _ _ u n h)
settled_was extension (is rows) t u n h = (rows, refl, ap (λ (k : ℕ). (Ok k, with_rows t 0 rows)) (omega arith))

-- a reader of a value by itself, by what it makes of the octets
module _ (extension : ℕ) (o : Contents (List Row) Fault) (v t : List ℕ) where
  -- its reply, and what it leaves
  abbrev Reads : Left
  Reads = alone extension v (λ u. step_of extension 0 o v u) t

  -- rows within the sizes are accepted
  reads_is : (rows : List Row) → table_numbers ≤ length t → 1 ≤ length v → length v ≤ max_octets → o ≡ is rows → Reads ≡ Accepted t rows
  reads_is rows p q r e =
      rw (le-ltb (length t) table_numbers p, ne_eqb (length v) 0 (omega arith), length-cleared table_numbers t, le-ltb (length t) table_numbers p, le-ltb max_octets (length v) r, e)
      (ap (λ (k : ℕ). (Ok k, with_rows (cleared table_numbers t) 0 rows)) (omega arith))

  -- and nothing else is
  reads_was : (u : List ℕ) (n : ℕ) → Reads ≡ (Ok n, u) → (rows : List Row) × (o ≡ is rows) × (table_numbers ≤ length t) × ((Ok n, u) ≡ Accepted t rows)
  reads_was u n h =
      let a = pick_not (ltb (length t) table_numbers) (Ok n, u) (short t) _ (no_rows _ _ u n) h in
      let b = pick_not (eqb (length v) 0) (Ok n, u) (refused_with extension (at 0 refusal.ValueSize) t) _ (no_rows _ _ u n) a.1 in
      let c = pick_not (ltb (length (cleared table_numbers t)) table_numbers) (Ok n, u) (short (cleared table_numbers t)) _ (no_rows _ _ u n) b.1 in
      let d = pick_not (ltb max_octets (length v)) (Ok n, u) (refused_with extension (at 0 refusal.ValueSize) (cleared table_numbers t)) _ (no_rows _ _ u n) c.1 in
      let (rows, e, q) = settled_was extension o (cleared table_numbers t) u n d.1 in
      (rows, e, ltb-false (length t) table_numbers a.0, sym d.1 ∙ q)

-- WHAT WAS ACCEPTED: the encoding of a table, whose rows are left
pub record Was (kind : ℕ) (v t : List ℕ) (l : Left) : Type 0 where
  pub rows : List Row
  pub allowed : Allowed kind rows
  pub value : v ≡ encode kind rows
  pub room : table_numbers ≤ length t
  pub leaves : l ≡ Accepted t rows

-- THE READER OF IPADDRBLOCKS accepts each encoding
pub ip_accepts : (t : List ℕ) (rows : List Row) → table_numbers ≤ length t → Allowed ip_kind rows → read_ip (encode ip_kind rows) t ≡ Accepted t rows
unfolding read_ip step_ip
ip_accepts t rows h a =
    let (p, q) = encode_size ip_kind rows (inl refl) a in
    reads_is ip_extension (ip_rows (encode ip_kind rows)) (encode ip_kind rows) t rows h p q (ip_reads rows a)

-- and nothing else
pub ip_accepted : (v t u : List ℕ) (n : ℕ) → Octets v → read_ip v t ≡ (Ok n, u) → Was ip_kind v t (Ok n, u)
unfolding read_ip step_ip
ip_accepted v t u n b h =
    let (rows, e, q, l) = reads_was ip_extension (ip_rows v) v t u n h in
    let (a, i) = (ip_exact v rows b).0 e in
    record { rows = rows; allowed = a; value = i; room = q; leaves = l }

-- THE READER OF ASIDENTIFIERS accepts each encoding
pub as_accepts : (t : List ℕ) (rows : List Row) → table_numbers ≤ length t → Allowed as_kind rows → read_as (encode as_kind rows) t ≡ Accepted t rows
unfolding read_as step_as
as_accepts t rows h a =
    let (p, q) = encode_size as_kind rows (inr refl) a in
    reads_is as_extension (as_rows 0 (encode as_kind rows)) (encode as_kind rows) t rows h p q (as_reads 0 rows a (omega (arith, a.few)))

-- and nothing else
pub as_accepted : (v t u : List ℕ) (n : ℕ) → Octets v → read_as v t ≡ (Ok n, u) → Was as_kind v t (Ok n, u)
unfolding read_as step_as
as_accepted v t u n b h =
    let (rows, e, q, l) = reads_was as_extension (as_rows 0 v) v t u n h in
    let (a, i) = (as_exact v rows b).0 e in
    record { rows = rows; allowed = a; value = i; room = q; leaves = l }
