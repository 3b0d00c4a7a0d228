-- The descent: what holds before each certificate, and what each way on from there leaves. Assumes nothing.
--     value_.., after_is    the values as `value` finds them
--     ip_there, ids_there               a certificate is left, so its two values are there
--     descend_..                        the exits of `descend`
--     clear_fits, rest_fits, few_pairs, descending  what it hands on to `clear_rest` and to itself
use mathlib.Core.Path.{◌≡◌, refl, sym, ap, ap₂, subst, ◌∙◌}
use mathlib.Core.List.{List}
use mathlib.Core.Bool.{true}
use Prim.Native.Nat.{ℕ, zero, suc, ◌+◌, ◌-◌, ◌*◌, ◌^◌, ◌≤◌, ◌<◌}
use native.Mathlib.Numerals.{add-one}
use native.Mathlib.Omega.{arith}
use lib.ListN.{length, take, drop, length-drop}
use lib.Seq.{drop-drop}
use Rattle.std.specs.Prelude.{Some, None, Option, Ok, Err}
use Rattle.number.proofs.Picks.{rest_of}
use Rattle.table.specs.Sizes.{row_numbers, max_rows, table_numbers}
use Rattle.table.specs.Rows.{Row, rows_of, rows_in, with_rows, cleared}
use Rattle.table.proofs.laws.Rows.{length_rows_of, length-with_rows}
use Rattle.der.specs.Parts.{is, isnt}
use Rattle.values.specs.declared.readings.Refused.{Refused}
use Rattle.path.specs.Bundle.{length_of, length_in, end_of, on_after, is_values, value_in, after_value, certificates_in}
use Rattle.path.specs.Certificate.{Above, Step, onward, carried, certificate, seen_above, checked}
use Rattle.path.specs.Certificate as one
use Rattle.path.specs.Paths.{below, descent, Left, tabled, Begun, issuer_of, cleared_rest, Full, Descending, placed, ends, descended}
use Rattle.path.specs.declared.certificates.Above as code
use Rattle.path.proofs.Framed.{length-there}
use Rattle.path.proofs.Framed as framed
use Rattle.path.proofs.Tabled.{cleared_tabled, rows_tabled, full_tabled, full_clear, full_rows}
use Rattle.path.proofs.Overwritten.{rest_tabled}
use Rattle.path.proofs.Accepting.{Accepts, refuses, accepts, Small, certificate_small}
use Rattle.path.specs.Replies.{Reply}
use Rattle.path.specs.declared.replies.Accepted.{Accepted}

-- THE VALUES

-- s begins with a value, and so many are left after it
record Next (k : ℕ) (s : List ℕ) : Type 0 where
  here : Begun s
  on : is_values k (after_value s) ≡ true

-- so does each rest of which a value is left
begins : (k : ℕ) (s : List ℕ) → is_values (suc k) s ≡ true → Next k s
unfolding is_values
begins k s h = go (end_of s) refl h
  where
    go : (r : Option ℕ) → end_of s ≡ r → on_after r (λ e. is_values k (drop e s)) ≡ true → Next k s
    go None p q = let z : ◌≡◌ {A = ℕ} 0 1 = cc in absurd (omega arith)
    go (Some e) p q =
        let w = framed.ends s e p in
        record { here = record { inside = omega arith }; on = subst (λ (i : ℕ). is_values k (drop i s) ≡ true) w.is q }

-- a value that is there, as the code finds it
module _ (s : List ℕ) (b : Begun s) (n : ℕ) (e : n ≡ length_in s) where
  -- its length
  there : n ≡ length_of s
  there = length-there s n (omega (arith, b.inside)) e

  -- it is there after the two octets,
  pub value_inside : n ≤ length (take (length s - 2) (drop 2 s))
  value_inside = rw (rest_of 2 s, length-drop) (omega (arith, there, b.inside))

  -- its octets,
  pub value_is : take n (take (length s - 2) (drop 2 s)) ≡ value_in s
  value_is = rw (rest_of 2 s, there)

  -- and those after it
  pub after_is : drop n (take (length s - 2) (drop 2 s)) ≡ after_value s
  after_is = rw (rest_of 2 s, there) (drop-drop (length_of s) 2 s)

-- THE PLACES OF THE TWO TABLES

-- what is left depends on the numbers after the tables' rows alone
placed_alike : (k : ℕ) (rows : List Row) (a b a' b' : List ℕ) → cleared table_numbers a ≡ cleared table_numbers a' → cleared table_numbers b ≡ cleared table_numbers b' → placed k rows a b ≡ placed k rows a' b'
placed_alike zero rows a b a' b' p q = ap₂ (λ (x y : List ℕ). (x, with_rows y 0 rows)) p q
placed_alike (suc k) rows a b a' b' p q = ap (λ (x : List ℕ × List ℕ). (x.1, x.0)) (placed_alike k rows b a b' a' q p)

-- with the tables in each other's place, one certificate is left more
swapped : Left → Left
swapped x = (x.0, x.2, x.1)

-- so a refusal, or the rows, end where the definition says
ends_next : (k : ℕ) (s : Step (List Row × ℕ)) (own issuer own' : List ℕ) → cleared table_numbers own' ≡ cleared table_numbers own → swapped (ends k s issuer own') ≡ ends (suc k) s own issuer
unfolding swapped
ends_next k (is h) own issuer own' p = ap (λ (x : List ℕ × List ℕ). (Ok (record { rows = length h.0; pairs = h.1 }), x.1, x.0)) (placed_alike k h.0 issuer own' issuer own refl p)
ends_next k (isnt f) own issuer own' p = ap (λ (x : List ℕ). (Err f, x, cleared table_numbers issuer)) p

-- ONE CERTIFICATE

module _ {left : ℕ} {rest own : List ℕ} {old : ℕ} {issuer : List ℕ} {above : code.Above} {pairs : ℕ} (d : Descending left rest own old issuer above pairs) where
  -- the certificates above, as the definition sees them
  abbrev a : Above
  a = seen_above above issuer

  -- the issuer's rows, and how many they are
  theirs : rows_in above.rows issuer ≡ rows_of above.rows issuer
  theirs = full_rows above.rows issuer d.theirs

  count_theirs : length (rows_in above.rows issuer) ≡ above.rows
  count_theirs = ap length theirs ∙ length_rows_of above.rows issuer

  -- what is to be cleared
  pub clear_fits : row_numbers * old < 2 ^ 64
  clear_fits = omega (arith, d.ours.few)

  -- no certificate is left: the last one's rows are in the issuer's table
  pub descend_end : left ≡ 0 → (t : List ℕ) → t ≡ cleared (row_numbers * old) own → ◌≡◌ {A = Left} (Ok (record { rows = above.rows; pairs = pairs }), t, issuer) (descended left rest own issuer above pairs)
  unfolding descended descent
  descend_end z t p =
      rw (z, p, full_clear old own d.ours)
      (ap₂ (λ (n : ℕ) (i : List ℕ). (Ok (record { rows = n; pairs = pairs }), cleared table_numbers own, i)) (sym count_theirs) (d.theirs.rows ∙ ap (λ (rs : List Row). tabled issuer rs) (sym theirs)))

  module _ (some : left ≡ 0 → ⊥) where
    -- two values are there, and so are those of the certificates after
    first : Next (suc (2 * (left - 1))) rest
    first =
        let e : 2 * left ≡ suc (suc (2 * (left - 1))) = omega arith in
        begins (suc (2 * (left - 1))) rest (rw e at d.framed)

    second : Next (2 * (left - 1)) (after_value rest)
    second = begins (2 * (left - 1)) (after_value rest) first.on

    -- the IP value
    pub ip_there : Begun rest
    ip_there = first.here

    module _ {after : List ℕ} (u : after ≡ after_value rest) where
      -- the AS value
      pub ids_there : Begun after
      ids_there = rw u second.here

      -- the certificate was checked
      module _ {ip ids own₁ : List ℕ} {r : Reply} (q : ip ≡ value_in rest) (v : ids ≡ value_in after) (e : ◌≡◌ {A = one.Left} (r, own₁) (checked a ip ids own)) where
        -- the definition at this certificate
        opened : (s : Step (List Row × ℕ)) → certificate a ip ids ≡ s
            → descended left rest own issuer above pairs
            ≡ ends (suc (left - 1)) (onward s (λ h. descent (below a (ip, ids) h.0) (pairs + h.1) (certificates_in (left - 1) (after_value after)))) own issuer
        unfolding descended descent
        opened s k =
            let z : left ≡ suc (left - 1) = omega arith in
            ap (λ (i : ℕ). descended i rest own issuer above pairs) z ∙ rw (← k, v, u, q)

        -- it is refused
        pub descend_refused : {f : Refused} {issuer' : List ℕ} → r ≡ Err f → issuer' ≡ cleared table_numbers issuer → ◌≡◌ {A = Left} (Err f, own₁, issuer') (descended left rest own issuer above pairs)
        descend_refused {f} y w =
            let t = refuses a ip ids own r own₁ d.ours.long e f y in
            ap₂ (λ (o i : List ℕ). (Err f, o, i)) t.table w ∙ sym (opened (isnt f) t.so)

        -- it is accepted: its rows are in its own table, over the old ones
        module _ {done : Accepted} (y : r ≡ Ok done) where
          -- so many rows and pairs
          abbrev n : ℕ
          n = done.rows

          abbrev more : ℕ
          more = done.pairs

          -- what was accepted, which is not much
          t : Accepts a ip ids own own₁ n more
          t = accepts a ip ids own r own₁ d.ours.long e done y

          small : Small a t.held
          small = certificate_small a t.held ip ids t.so

          -- the old ones were within the table
          pub rest_fits : row_numbers * old ≤ length own₁
          rest_fits = omega (arith, d.ours.few, d.ours.long, ap length t.table ∙ length-with_rows own 0 t.held.0)

          -- its pairs are few
          pub few_pairs : more ≤ 2 * max_rows
          few_pairs = omega (arith, small.pairs, t.counted, count_theirs, d.theirs.few)

          -- what is left of the old rows is cleared, and the next one is read into its issuer's table
          module _ {own₂ : List ℕ} (p : own₂ ≡ cleared_rest n old own₁) where
            -- its table
            table : own₂ ≡ tabled own t.held.0
            table = p ∙ ap₂ (λ (k : ℕ) (l : List ℕ). cleared_rest k old l) t.rows t.table ∙ rest_tabled old own d.ours t.held.0 small.rows

            -- its table has its rows, and then zeros
            ours : Full n own₂
            ours = rw table (full_tabled own t.held.0 small.rows n d.ours.long t.rows)

            -- it is the next one's issuer
            issued : (next : code.Above) → next ≡ issuer_of above ip ids n → seen_above next own₂ ≡ below a (ip, ids) t.held.0
            issued next x =
                let rows : rows_in n own₂ ≡ t.held.0 =
                full_rows n own₂ ours ∙ ap₂ (λ (k : ℕ) (l : List ℕ). rows_of k l) t.rows table ∙ rows_tabled own t.held.0 small.rows d.ours.long in
                rw x (ap₂ (λ (k : ℕ) (rs : List Row). record { certificates = k; rows = rs; ip = carried ip; ids = carried ids }) (add-one above.certificates) rows)

            module _ {next : code.Above} {rest' : List ℕ} (x : next ≡ issuer_of above ip ids n) (w : rest' ≡ after_value after) where
              -- what holds before the next one, whatever pairs are counted that fit
              pub descending : {total : ℕ} → (more ≤ 2 * max_rows → total + 2 * max_rows * (left - 1) < 2 ^ 64) → Descending (left - 1) rest' issuer above.rows own₂ next total
              descending fits = rw (w, x, u) (record { framed = second.on; ours = d.theirs; theirs = ours; numbered = omega (arith, d.numbered); counted = fits few_pairs })

              -- and what that leaves
              pub descend_on : {own₃ issuer' : List ℕ} {o : Reply} → ◌≡◌ {A = Left} (o, issuer', own₃) (descended (left - 1) rest' issuer own₂ next (pairs + more))
                  → ◌≡◌ {A = Left} (o, own₃, issuer') (descended left rest own issuer above pairs)
              unfolding swapped descended
              descend_on g =
                  ap (λ (l : Left). swapped l) (rw (w, t.counted, issued next x) at g)
                  ∙ ends_next (left - 1) (descent (below a (ip, ids) t.held.0) (pairs + t.held.1) (certificates_in (left - 1) (after_value after))) own issuer own₂
                  (ap (λ (l : List ℕ). cleared table_numbers l) table ∙ cleared_tabled own t.held.0 small.rows)
                  ∙ sym (opened (is t.held) t.so)
