-- What the values' code reads of a certificate's two values is what the definition reads. Assumes nothing.
--     bridge              the rows, which are in the table, or the refusal, which has the certificate's number yet to come
--     certificate_..      the exits of `certificate`
use mathlib.Core.Path.{◌≡◌, refl, sym, ap, ap₂, ◌∙◌}
use mathlib.Core.List.{List, [], ◌++◌}
use mathlib.Core.Bool.{Bool, true, false, true≢false, false≢true}
use mathlib.Core.Logic.{◌⊎◌, inl, inr}
use Prim.Native.Nat.{ℕ, ◌+◌, ◌≤◌, ◌<◌}
use native.Mathlib.Nat.{add-zero, zero-add}
use native.Mathlib.Omega.{arith}
use lib.ListN.{length, length-append}
use lib.Dec.{ltb, eqb}
use borrow.Author.Tests.{lt-ltb, le-ltb}
use Rattle.std.specs.Prelude.{Ok, Err, Option, Some, None, is_err}
use Rattle.number.specs.Tests.{pick}
use Rattle.number.specs.Octets.{Octets}
use Rattle.number.specs.declared.refusal.Refusal.TheVariants as refusal
use Rattle.table.specs.Sizes.{max_rows, table_numbers}
use Rattle.table.specs.Rows.{Row, room, rows_of, with_rows, cleared}
use Rattle.table.proofs.laws.Rows.{length-with_rows, rows_written, with_rows-append, cleared_twice, cleared_rows}
use Rattle.der.specs.Parts.{Contents, is, isnt}
use Rattle.values.specs.Limits.{ip_extension, as_extension, max_octets}
use Rattle.values.specs.declared.faults.Fault.{Fault}
use Rattle.values.specs.Faults.{at}
use Rattle.values.specs.Tables.{ip_rows, as_rows}
use Rattle.values.specs.Readings.{refused_with, settled, step_of, step_ip, step_as, on_as, step_both}
use Rattle.values.specs.declared.readings.Refused.{Refused}
use Rattle.values.proofs.laws.Exact.{ip_exact, as_exact_after}
use Rattle.path.specs.Replies.{fault_at, named, Reply}
use Rattle.path.specs.Certificate.{Step, onward, blamed, value_step, ip_step, as_step, read_step, lacked, after_presence, after_reading, certificate, Left, seen_above, refused, left, checked, zeroed}
use Rattle.path.specs.declared.certificates.Above as code
use Rattle.path.proofs.Checking.{read_again}
use Rattle.values.specs.Readings.{Reading}
use Rattle.std.specs.Prelude.{Ok, Err}

-- ONE VALUE

-- what the code answers and leaves of a value, after n rows
abbrev Read : Type 0
Read = Reading × List ℕ

abbrev coded : ℕ → ℕ → Contents (List Row) Fault → List ℕ → List ℕ → Read
coded extension n rows v t = pick (eqb (length v) 0) (Ok n, t) (step_of extension n rows v t)

-- the definition's step, and the code's
abbrev One : ℕ → ℕ → List ℕ → Step (List Row) → Read → Type 0
One k n t (is rows) l = (l.0 ≡ Ok (n + length rows)) × (l.1 ≡ with_rows t n rows)
One k n t (isnt f) l = (g : Refused) × (l.0 ≡ Err g) × (named k g ≡ f) × (l.1 ≡ cleared table_numbers t)

-- they agree
one : (k extension n : ℕ) (rows : Contents (List Row) Fault) (v t : List ℕ) → table_numbers ≤ length t → One k n t (value_step k extension v rows) (coded extension n rows v t)
unfolding with_rows
one k extension n rows v t long = rw (le-ltb (length t) table_numbers long) (go (eqb (length v) 0) (ltb max_octets (length v)) rows)
  where
    go : (b c : Bool) (rows : Contents (List Row) Fault)
        → One k n t (pick (pick b false true) (pick c (isnt (fault_at refusal.ValueSize k extension 0 0)) (blamed k extension rows)) (is []))
        (pick b (Ok n, t) (pick c (refused_with extension (at 0 refusal.ValueSize) t) (settled extension n rows t)))
    go true c rows = (ap Ok (sym (add-zero n)), refl)
    go false true rows = (_, refl, refl, refl)
    go false false (is rs) = (refl, refl)
    go false false (isnt f) = (_, refl, refl, refl)

-- a value that gives rows is absent, or its rows are read
value_was : (k extension : ℕ) (v : List ℕ) (o : Contents (List Row) Fault) (rows : List Row) → value_step k extension v o ≡ is rows → (length rows ≡ 0) ⊎ (o ≡ is rows)
value_was k extension v o rows e = go (eqb (length v) 0) (ltb max_octets (length v)) o e
  where
    go : (b c : Bool) (o : Contents (List Row) Fault) → pick (pick b false true) (pick c (isnt (fault_at refusal.ValueSize k extension 0 0)) (blamed k extension o)) (is []) ≡ is rows → (length rows ≡ 0) ⊎ (o ≡ is rows)
    go true c o e = let q : rows ≡ [] = cc in inl (ap length q)
    go false true o e = let z : ◌≡◌ {A = ℕ} 0 1 = cc in absurd (omega arith)
    go false false (is rs) e = inr cc
    go false false (isnt f) e = let z : ◌≡◌ {A = ℕ} 0 1 = cc in absurd (omega arith)

-- they are not too many: of an IP value,
few_ip : (k : ℕ) (v : List ℕ) (rows : List Row) → Octets v → ip_step k v ≡ is rows → length rows ≤ max_rows
unfolding ip_step
few_ip k v rows o e = go (value_was k ip_extension v (ip_rows v) rows e)
  where
    go : (length rows ≡ 0) ⊎ (ip_rows v ≡ is rows) → length rows ≤ max_rows
    go (inl z) = omega arith
    go (inr q) = ((ip_exact v rows o).0 q).0.few

-- and of an AS value that is counted on from n
few_as : (k n : ℕ) (v : List ℕ) (rows : List Row) → Octets v → n ≤ max_rows → as_step k n v ≡ is rows → n + length rows ≤ max_rows
unfolding as_step
few_as k n v rows o h e = go (value_was k as_extension v (as_rows n v) rows e)
  where
    go : (length rows ≡ 0) ⊎ (as_rows n v ≡ is rows) → n + length rows ≤ max_rows
    go (inl z) = omega arith
    go (inr q) = ((as_exact_after n v rows o).0 q).2

-- BOTH VALUES

-- the definition's reading, and the code's
abbrev Bridged : ℕ → List ℕ → Step (List Row) → Read → Type 0
Bridged k t (is rows) l = (l.0 ≡ Ok (length rows)) × (l.1 ≡ with_rows t 0 rows) × (length rows ≤ max_rows)
Bridged k t (isnt f) l = (g : Refused) × (l.0 ≡ Err g) × (named k g ≡ f) × (cleared table_numbers l.1 ≡ cleared table_numbers t)

module _ (k : ℕ) (ip ids t : List ℕ) (long : table_numbers ≤ length t) (oip : Octets ip) (oids : Octets ids) where
  -- the AS value after the IP rows
  second : (rows : List Row) → length rows ≤ max_rows → (s : Step (List Row)) (l : Read) → as_step k (length rows) ids ≡ s → One k (length rows) (with_rows t 0 rows) s l
      → Bridged k t (onward s (λ more. is (rows ++ more))) l
  second rows h (is more) l e (p, q) =
      let c = length-append rows more in
      let a : with_rows t 0 (rows ++ more) ≡ with_rows (with_rows t 0 rows) (length rows) more = rw zero-add at (with_rows-append t 0 rows more) in
      (p ∙ ap Ok (sym c), q ∙ sym a, omega (arith, few_as k (length rows) ids more oids h e))
  second rows h (isnt f) l e (g, p, q, r) = (g, p, q, ap (λ (u : List ℕ). cleared table_numbers u) r ∙ cleared_twice table_numbers (with_rows t 0 rows) ∙ cleared_rows t 0 rows (omega arith))

  -- the IP value
  first : (s : Step (List Row)) (l : Read) → ip_step k ip ≡ s → One k 0 t s l → Bridged k t (onward s (λ rows. onward (as_step k (length rows) ids) (λ more. is (rows ++ more)))) (on_as ids l.1 l.0)
  unfolding step_as as_step
  first (is rows) l e (p, q) =
      let h = few_ip k ip rows oip e in
      let z : l.0 ≡ Ok (length rows) = p ∙ ap Ok (zero-add (length rows)) in
      let b : table_numbers ≤ length (with_rows t 0 rows) = rw length-with_rows long in
      rw (z, q) (second rows h (as_step k (length rows) ids) (coded as_extension (length rows) (as_rows (length rows) ids) ids (with_rows t 0 rows)) refl (one k as_extension (length rows) (as_rows (length rows) ids) ids (with_rows t 0 rows) b))
  first (isnt f) l e (g, p, q, r) = rw p (g, refl, q, ap (λ (u : List ℕ). cleared table_numbers u) r ∙ cleared_twice table_numbers t)

  -- so both
  pub bridge : Bridged k t (read_step k ip ids) (step_both ip ids t)
  unfolding step_both step_ip ip_step
  bridge = first (ip_step k ip) (coded ip_extension 0 (ip_rows ip) ip t) refl (one k ip_extension 0 (ip_rows ip) ip t long)

-- ONE CERTIFICATE

module _ (a : code.Above) (issuer ip ids own : List ℕ) where
  -- what is to be answered
  abbrev answer : Left
  answer = left (certificate (seen_above a issuer) ip ids) own

  -- a table too short
  pub certificate_short : (f : Refused) → length own < table_numbers → f ≡ fault_at refusal.TableShort 0 0 0 0 → ◌≡◌ {A = Left} (Err f, own) (checked (seen_above a issuer) ip ids own)
  unfolding checked
  certificate_short f h e = rw (lt-ltb (length own) table_numbers h, e)

  module _ (long : table_numbers ≤ length own) where
    -- the steps' reply, and their table where a refusal is followed by zeros
    pub certificate_zeroed : (r : Reply) (t : List ℕ) → zeroed r t ≡ answer → zeroed r t ≡ checked (seen_above a issuer) ip ids own
    unfolding checked
    certificate_zeroed r t q = rw (le-ltb (length own) table_numbers long) q

    module _ (oip : Octets ip) (oids : Octets ids) (x : Reading) (t : List ℕ) (e : ◌≡◌ {A = Read} (x, t) (step_both ip ids own)) where
      -- what the code's answer says of the reading
      told : Bridged a.certificates own (read_step a.certificates ip ids) (x, t)
      told = rw (← e) at (bridge a.certificates ip ids own long oip oids)

      -- a value is refused
      pub certificate_refused : (g : Refused) → x ≡ Err g → (f : Refused) → f ≡ named a.certificates g → refused f t ≡ answer
      unfolding certificate
      certificate_refused g h f p = go (read_step a.certificates ip ids) told
        where
          go : (s : Step (List Row)) → Bridged a.certificates own s (x, t) → refused f t ≡ left (onward s (λ rows. after_reading (seen_above a issuer) ip ids rows)) own
          go (is rows) (i, j, m) = let z : ◌≡◌ {A = ℕ} 0 1 = cc in absurd (omega arith)
          go (isnt o) (i, j, m, c) =
              let y : f ≡ o = cc in
              ap₂ (λ (w : Refused) (l : List ℕ). (Err w, l)) y c

      -- both are read: so many rows, and they are in the table
      module _ (n : ℕ) (h : x ≡ Ok n) where
        -- then the steps after the reading decide
        both_read : (l : Left) → ((rows : List Row) → n ≡ length rows → t ≡ with_rows own 0 rows → length rows ≤ max_rows → l ≡ left (after_reading (seen_above a issuer) ip ids rows) own) → l ≡ answer
        unfolding certificate
        both_read l next = go (read_step a.certificates ip ids) told
          where
            go : (s : Step (List Row)) → Bridged a.certificates own s (x, t) → l ≡ left (onward s (λ rows. after_reading (seen_above a issuer) ip ids rows)) own
            go (is rows) (i, j, m) = next rows (cc) j m
            go (isnt o) (i, j, m, c) = let z : ◌≡◌ {A = ℕ} 0 1 = cc in absurd (omega arith)

        module _ (l : Option ℕ) (d : l ≡ lacked ip ids a.ip a.ids) where
          -- the issuer lacks an extension
          pub certificate_lacks : (k : ℕ) → l ≡ Some k → (f : Refused) → f ≡ fault_at refusal.IssuerLacks a.certificates k 0 0 → refused f t ≡ answer
          unfolding after_reading
          certificate_lacks k z f p = both_read (refused f t) (λ rows i j m.
              rw (← d, z, p, j) (ap (λ (w : List ℕ). (Err (fault_at refusal.IssuerLacks a.certificates k 0 0), w)) (cleared_rows own 0 rows (omega arith))))

          -- it does not: inheritance is next
          pub certificate_inherits : l ≡ None → (r : Reply) (u : List ℕ) → zeroed r u ≡ left (after_presence (seen_above a issuer) (rows_of n t)) t → zeroed r u ≡ answer
          unfolding after_reading
          certificate_inherits z r u q = both_read (zeroed r u) (λ rows i j m.
              let b : length rows ≤ room own = omega arith in
              rw (← d, z) (q ∙ rw (i, j, rows_written own rows b) (read_again (seen_above a issuer) rows own m)))

      -- the rows that were read are not too many
      pub read_few : (n : ℕ) → x ≡ Ok n → n ≤ max_rows
      read_few n h = go (read_step a.certificates ip ids) told
        where
          go : (s : Step (List Row)) → Bridged a.certificates own s (x, t) → n ≤ max_rows
          go (is rows) (i, j, m) = let y : n ≡ length rows = cc in omega arith
          go (isnt o) (i, j, m, c) = let z : ◌≡◌ {A = ℕ} 0 1 = cc in absurd (omega arith)

-- by whether the steps refused: their table is cleared, or left
pub reply_zeroed : (r : Reply) (t t' : List ℕ) (l : Left) → zeroed r t ≡ l → is_err r ≡ true → t' ≡ cleared table_numbers t → ◌≡◌ {A = Left} (r, t') l
reply_zeroed (Ok x) t t' l e h p = absurd (false≢true h)
reply_zeroed (Err f) t t' l e h p = rw p e

pub reply_stays : (r : Reply) (t : List ℕ) (l : Left) → zeroed r t ≡ l → is_err r ≡ false → ◌≡◌ {A = Left} (r, t) l
reply_stays (Ok x) t l e h = e
reply_stays (Err f) t l e h = absurd (true≢false h)
