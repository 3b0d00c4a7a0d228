-- What `inherit` hands on and returns, by what `count_all` found. Assumes nothing.
use mathlib.Core.Path.{◌≡◌, refl, sym, ap, ap₂, ◌∙◌}
use mathlib.Core.List.{List, [], ◌∷◌}
use mathlib.Core.Bool.{Bool, true, false, true≢false}
use Prim.Native.Nat.{ℕ, min, ◌+◌, ◌*◌, ◌^◌, ◌≤◌, ◌<◌}
use native.Mathlib.Omega.{arith}
use lib.Dec.{eqb}
use lib.ListN.{length, get_or, take}
use borrow.Author.Tests.{lt-ltb, le-ltb}
use Rattle.std.specs.Prelude.{Ok, Err}
use Rattle.number.proofs.Picks.{pick_not}
use Rattle.table.specs.Sizes.{row_numbers, max_rows, table_numbers}
use Rattle.table.specs.Rows.{Row, room, rows_of, rows_in, with_rows, rows_all}
use Rattle.table.proofs.laws.Rows.{length_rows_of, rows_cut, with_rows_same}
use Rattle.path.specs.Inherit.{resolved, Spaces, all, lacks, lacking, filled_in, inherit, inherits, told, count_of, Filling, Inherited}
use Rattle.path.specs.declared.inherits.Uninherited.{Uninherited}
use Rattle.path.specs.declared.inherits.Uninherited.TheVariants as uninherited

-- a count tells which spaces are lacking
was_lacking : (s : Spaces) (k : ℕ) (x : Uninherited) → Err x ≡ told s k → (t : ℕ) × (s ≡ lacks t) × (x ≡ uninherited.NoSpace t)
was_lacking all k x e = let z : ◌≡◌ {A = ℕ} 0 1 = cc in absurd (omega arith)
was_lacking (lacks t) k x e = (t, refl, cc)

was_all : (s : Spaces) (k n : ℕ) → Ok n ≡ told s k → (s ≡ all) × (n ≡ min k (max_rows + 1))
was_all all k n e = let q : n ≡ min k (max_rows + 1) = cc in (refl, q)
was_all (lacks x) k n e = let z : ◌≡◌ {A = ℕ} 0 1 = cc in absurd (omega arith)

-- a table that is too short
pub inherit_short : (n : ℕ) (own : List ℕ) (m : ℕ) (issuer : List ℕ) → length own < table_numbers → (Err uninherited.Short, own) ≡ inherit n own m issuer
unfolding inherit
inherit_short n own m issuer h = rw (lt-ltb (length own) table_numbers h)

-- rows of which none inherits lack no space,
none_lacking : (issuer rs : List Row) → inherits rs ≡ false → lacking issuer rs ≡ all
none_lacking issuer [] h = refl
none_lacking issuer (r ∷ rs) h = let (b, i) = pick_not (eqb r.inherit 1) false true (inherits rs) true≢false h in rw b (none_lacking issuer rs i)

-- and stay as they are
none_resolved : (issuer rs : List Row) → inherits rs ≡ false → resolved issuer rs ≡ rs
none_resolved issuer [] h = refl
none_resolved issuer (r ∷ rs) h = let (b, i) = pick_not (eqb r.inherit 1) false true (inherits rs) true≢false h in rw b (ap (λ (l : List Row). r ∷ l) (none_resolved issuer rs i))

-- where no row of a table inherits
module _ (own issuer : List ℕ) (k n m : ℕ) {listed : List Row} {r : Bool} (e : r ≡ inherits listed) (f : r ≡ false) (long : table_numbers ≤ length own) (p : k ≡ min n (room own)) (q : listed ≡ rows_in n own) where
  none : inherits (rows_of k own) ≡ false
  none = ap inherits (ap (λ (i : ℕ). rows_of i own) p ∙ sym q) ∙ sym e ∙ f

  -- what the definition says of it
  none_is : inherit n own m issuer ≡ filled_in all (rows_of k own) own
  unfolding inherit
  none_is =
      rw (le-ltb (length own) table_numbers long, ← p)
      (ap₂ (λ (s : Spaces) (rs : List Row). filled_in s rs own) (none_lacking (rows_in m issuer) (rows_of k own) none) (none_resolved (rows_in m issuer) (rows_of k own) none))

  pub none_many : max_rows < k → (Err uninherited.TooMany, own) ≡ inherit n own m issuer
  none_many h = sym (none_is ∙ rw (length_rows_of k own, lt-ltb max_rows k h) refl)

  pub none_rows : k ≤ max_rows → ((i : ℕ) → get_or own i 0 < 2 ^ 64) → (Ok k, own) ≡ inherit n own m issuer
  none_rows h l =
      let w : with_rows own 0 (rows_of k own) ≡ own = with_rows_same k 0 own (omega arith) l in
      sym (none_is ∙ rw (length_rows_of k own, le-ltb max_rows k h) (ap (λ (x : List ℕ). (Ok k, x)) w))

-- the issuer's run, cut off after as many rows as asked for
pub cut_off : (m j : ℕ) (issuer : List ℕ) → j ≡ min m (room issuer) → rows_all (take (row_numbers * j) issuer) ≡ rows_in m issuer
cut_off m j issuer p = rows_cut j issuer (omega arith) ∙ ap (λ (i : ℕ). rows_of i issuer) p

module _ (own : List ℕ) (held : List Row) (k : ℕ) (r : Inherited) {listed : List Row} (told_of : r ≡ count_of held listed) (n : ℕ) (p : k ≡ min n (room own)) (same : listed ≡ rows_in n own) where
  e : r ≡ count_of held (rows_of k own)
  e = told_of ∙ ap (λ (rs : List Row). count_of held rs) (same ∙ ap (λ (i : ℕ). rows_of i own) (sym p))

  -- the rows after inheritance
  abbrev rows : List Row
  rows = resolved held (rows_of k own)

  -- what was found: a space that the issuer does not have, or how many rows they are
  no_space : (x : Uninherited) → r ≡ Err x → (t : ℕ) × (lacking held (rows_of k own) ≡ lacks t) × (x ≡ uninherited.NoSpace t)
  unfolding count_of
  no_space x f = was_lacking (lacking held (rows_of k own)) (length rows) x (sym f ∙ e)

  found : (total : ℕ) → r ≡ Ok total → (lacking held (rows_of k own) ≡ all) × (total ≡ min (length rows) (max_rows + 1))
  unfolding count_of
  found total f = was_all (lacking held (rows_of k own)) (length rows) total (sym f ∙ e)

  -- where they are not too many, they can be written
  pub inherit_fills : (total : ℕ) → r ≡ Ok total → total ≤ max_rows → Filling held own k total
  inherit_fills total f h = let (s, c) = found total f in record { there = omega arith; covered = s; upto = omega (arith, c) }

  -- the answers, in a table that is long enough
  module _ (m : ℕ) (issuer : List ℕ) (long : table_numbers ≤ length own) (q : held ≡ rows_in m issuer) where
    pub inherit_lacks : (x : Uninherited) → r ≡ Err x → (Err x, own) ≡ inherit n own m issuer
    unfolding inherit
    inherit_lacks x f = let (t, s, y) = no_space x f in ap (λ (z : Uninherited). (Err z, own)) y ∙ rw (le-ltb (length own) table_numbers long, ← p, ← q, s)

    pub inherit_many : (total : ℕ) → r ≡ Ok total → max_rows < total → (Err uninherited.TooMany, own) ≡ inherit n own m issuer
    unfolding inherit
    inherit_many total f h =
        let (s, c) = found total f in
        let b : max_rows < length rows = omega (arith, c) in
        rw (le-ltb (length own) table_numbers long, ← p, ← q, s, lt-ltb max_rows (length rows) b)

    pub inherit_rows : (total : ℕ) → r ≡ Ok total → total ≤ max_rows → (u : List ℕ) → u ≡ with_rows own 0 rows → (Ok total, u) ≡ inherit n own m issuer
    unfolding inherit
    inherit_rows total f h u w =
        let (s, c) = found total f in
        let d : total ≡ length rows = omega (arith, c) in
        let b : length rows ≤ max_rows = omega (arith, c) in
        ap₂ (λ (i : ℕ) (x : List ℕ). (Ok i, x)) d w ∙ rw (le-ltb (length own) table_numbers long, ← p, ← q, s, le-ltb max_rows (length rows) b)
