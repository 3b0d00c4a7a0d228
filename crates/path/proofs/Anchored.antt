-- The descent from the anchor, and the path check. Assumes nothing.
--     descend_even, descend_odd    the exits of `descend_all`
--     head_there, check_starts     what `check` hands on to it
--     check_..                     the exits of `check`
use mathlib.Core.Path.{◌≡◌, refl, sym, ap, ◌∙◌}
use mathlib.Core.List.{List}
use mathlib.Core.Bool.{true}
use Prim.Native.Nat.{ℕ, zero, suc, min, ◌-◌, ◌%◌, ◌≤◌, ◌<◌}
use native.Mathlib.Omega.{arith}
use lib.ListN.{length, take, drop}
use borrow.Author.Tests.{lt-ltb, le-ltb}
use Rattle.std.specs.Prelude.{Result, Ok, Err, MatchResult, IsErrAnd}
use Rattle.number.specs.declared.refusal.Refusal.{Refusal}
use Rattle.number.specs.declared.refusal.Refusal.TheVariants as refusal
use Rattle.number.proofs.Picks.{rest_of}
use Rattle.table.specs.Sizes.{table_numbers}
use Rattle.table.specs.Rows.{Row, room, rows_of, cleared}
use Rattle.table.proofs.laws.Rows.{cleared_twice}
use Rattle.der.specs.Parts.{is, isnt}
use Rattle.path.specs.Bundle.{frame_of, certificates_in}
use Rattle.path.specs.Certificate.{anchor, Step, seen_above}
use Rattle.path.specs.Paths.{descent, path_of, Left, tabled, leaves, bare, check, Starting, placed, ends, descended}
use Rattle.path.specs.declared.certificates.Above as code
use Rattle.path.proofs.Framed.{Bundled, bundled}
use Rattle.path.proofs.Tabled.{full_none}
use Rattle.values.specs.declared.readings.Refused.{Refused}
use Rattle.path.specs.Replies.{Reply}

-- THE TWO TABLES IN THEIR PLACES

-- the last certificate's rows are in the issuer's table with an even number of certificates left, and in the other with an odd one
placed_in : (n : ℕ) (rows : List Row) (a b : List ℕ) → (n % 2 ≡ 0 → placed n rows a b ≡ (cleared table_numbers a, tabled b rows)) × ((n % 2 ≡ 0 → ⊥) → placed n rows a b ≡ (tabled a rows, cleared table_numbers b))
placed_in zero rows a b = (λ e. refl, λ e. absurd (e refl))
placed_in (suc n) rows a b =
    let (even, odd) = placed_in n rows b a in
    (λ e. ap (λ (x : List ℕ × List ℕ). (x.1, x.0)) (odd (λ z. omega arith)), λ e. ap (λ (x : List ℕ × List ℕ). (x.1, x.0)) (even (omega arith)))

-- above the anchor there is no row
abbrev none : code.Above
none = record { certificates = 0; rows = 0; ip = true; ids = true }

-- so the definition starts at the anchor
no_rows : (t : List ℕ) → seen_above none t ≡ anchor
unfolding rows_of
no_rows t =
    let e : min 0 (room t) ≡ 0 = omega arith in
    ap (λ (k : ℕ). record { certificates = 0; rows = rows_of k t; ip = true; ids = true }) e

module _ (count : ℕ) (values first second : List ℕ) (r : Reply) (first' second' : List ℕ) where
  -- an even number of certificates: the first table is the issuer's
  pub descend_even : count % 2 ≡ 0 → ◌≡◌ {A = Left} (r, second', first') (descended count values second first none 0)
      → ◌≡◌ {A = Left} (r, first', second') (leaves (descent anchor 0 (certificates_in count values)) first second)
  unfolding descended
  descend_even z e = go (descent anchor 0 (certificates_in count values)) (rw (no_rows first) at e)
    where
      go : (s : Step (List Row × ℕ)) → ◌≡◌ {A = Left} (r, second', first') (ends count s second first) → ◌≡◌ {A = Left} (r, first', second') (leaves s first second)
      go (is h) q = ap (λ (l : Left). (l.0, l.2, l.1)) (rw ((placed_in count h.0 second first).0 z) at q)
      go (isnt f) q = ap (λ (l : Left). (l.0, l.2, l.1)) q

  -- an odd one: it is the anchor's
  pub descend_odd : (count % 2 ≡ 0 → ⊥) → ◌≡◌ {A = Left} (r, first', second') (descended count values first second none 0)
      → ◌≡◌ {A = Left} (r, first', second') (leaves (descent anchor 0 (certificates_in count values)) first second)
  unfolding descended
  descend_odd z e = go (descent anchor 0 (certificates_in count values)) (rw (no_rows second) at e)
    where
      go : (s : Step (List Row × ℕ)) → ◌≡◌ {A = Left} (r, first', second') (ends count s first second) → ◌≡◌ {A = Left} (r, first', second') (leaves s first second)
      go (is h) q = rw ((placed_in count h.0 first second).1 z) at q
      go (isnt f) q = q

-- the head of a bundle that `frame` found framed
pub head_there : (b : List ℕ) (f : Result ℕ Refusal) (n : ℕ) → f ≡ frame_of b → f ≡ Ok n → 6 ≤ length b
head_there b f n p q = (bundled b n (sym p ∙ q)).least

-- what `frame` answered, by what its answer with the refusal named is
module _ (f : Result ℕ Refusal) (m : Result ℕ Refused) (c : MatchResult f (λ n. m ≡ Ok n) (λ r. IsErrAnd m (λ x. ◌≡◌ {A = Reply} (Err x) (bare r)))) where
  pub was_framed : (n : ℕ) → m ≡ Ok n → f ≡ Ok n
  was_framed n h = go f c
    where
      go : (f : Result ℕ Refusal) → MatchResult f (λ n. m ≡ Ok n) (λ r. IsErrAnd m (λ x. ◌≡◌ {A = Reply} (Err x) (bare r))) → f ≡ Ok n
      go (Ok k) e = let q : ◌≡◌ {A = Result ℕ Refused} (Ok k) (Ok n) = sym e ∙ h in let z : k ≡ n = cc in ap Ok z
      go (Err r) e = absurd (rw h at e)

  pub was_refused : (x : Refused) → m ≡ Err x → (r : Refusal) × (f ≡ Err r) × ◌≡◌ {A = Reply} (Err x) (bare r)
  was_refused x h = go f c
    where
      go : (f : Result ℕ Refusal) → MatchResult f (λ n. m ≡ Ok n) (λ r. IsErrAnd m (λ x. ◌≡◌ {A = Reply} (Err x) (bare r))) → (r : Refusal) × (f ≡ Err r) × ◌≡◌ {A = Reply} (Err x) (bare r)
      go (Ok k) e = let q : ◌≡◌ {A = Result ℕ Refused} (Ok k) (Err x) = sym e ∙ h in let z : ◌≡◌ {A = ℕ} 0 1 = cc in absurd (omega arith)
      go (Err r) e = (r, refl, rw h at e)

-- THE CHECK

module _ (b first second : List ℕ) where
  -- 16, of the first table and of the second
  pub check_first : (r : Reply) → length first < table_numbers → r ≡ bare refusal.TableShort → ◌≡◌ {A = Left} (r, first, second) (check b first second)
  unfolding check
  check_first r h e = rw (lt-ltb (length first) table_numbers h, e)

  module _ (long : table_numbers ≤ length first) where
    pub check_second : (r : Reply) → length second < table_numbers → r ≡ bare refusal.TableShort → ◌≡◌ {A = Left} (r, first, second) (check b first second)
    unfolding check
    check_second r h e = rw (le-ltb (length first) table_numbers long, lt-ltb (length second) table_numbers h, e)

    module _ (long' : table_numbers ≤ length second) where
      -- the tables are long enough
      opened : check b first second ≡ leaves (path_of b) first second
      unfolding check
      opened = rw (le-ltb (length first) table_numbers long, le-ltb (length second) table_numbers long')

      module _ (f : Result ℕ Refusal) (p : f ≡ frame_of b) (first₁ second₁ : List ℕ) (u : first₁ ≡ cleared table_numbers first) (v : second₁ ≡ cleared table_numbers second) where
        -- the bundle is refused
        pub check_refused : (r : Reply) (x : Refusal) → f ≡ Err x → r ≡ bare x → ◌≡◌ {A = Left} (r, first₁, second₁) (check b first second)
        unfolding path_of
        check_refused r x y e = rw (opened, ← p, y, e, u, v)

        -- it has certificates
        module _ (n : ℕ) (y : f ≡ Ok n) where
          -- which are well framed,
          framed : Bundled b n
          framed = bundled b n (sym p ∙ y)

          -- so that the descent can start, with zeros in both tables,
          pub check_starts : Starting n (take (length b - 6) (drop 6 b)) first₁ second₁
          check_starts = rw (rest_of 6 b, u, v) (record { framed = framed.values; few = framed.few; one = full_none first long; two = full_none second long' })

          -- and what it leaves is left over what was there before
          pub check_leaves : (l : Left) → l ≡ leaves (descent anchor 0 (certificates_in n (take (length b - 6) (drop 6 b)))) first₁ second₁ → l ≡ check b first second
          unfolding path_of
          check_leaves l e = rw (opened, ← p, y) (go (descent anchor 0 (certificates_in n (drop 6 b))) (rw (rest_of 6 b, u, v) at e))
            where
              go : (s : Step (List Row × ℕ)) → l ≡ leaves s (cleared table_numbers first) (cleared table_numbers second) → l ≡ leaves s first second
              go (is h) q = rw (cleared_twice table_numbers first, cleared_twice table_numbers second) at q
              go (isnt x) q = rw (cleared_twice table_numbers first, cleared_twice table_numbers second) at q
