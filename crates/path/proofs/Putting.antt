-- Rows written up to a place, and the loops of `put_space` and `put_all`: what holds at their heads, and what each way on from there gives. Assumes nothing.
use mathlib.Core.Path.{◌≡◌, refl, sym, ap, ◌∙◌}
use mathlib.Core.List.{List, [], ◌∷◌, ◌++◌}
use Prim.Native.Nat.{ℕ, ◌+◌, ◌-◌, ◌≤◌, ◌<◌}
use native.Mathlib.Nat.{sub-zero}
use native.Mathlib.Omega.{arith}
use lib.ListN.{length, length-append}
use borrow.Author.Tests.{ne_eqb}
use Rattle.table.specs.Rows.{Row, seen, in_halves, room, row_at, with_row, rows_of, with_rows}
use Rattle.table.specs.declared.rows.Row as code
use Rattle.table.proofs.laws.Rows.{length_with_row, length-with_rows, with_rows-append, with_rows_swap, rows_kept, length_rows_of}
use Rattle.path.specs.Inherit.{in_space, resolved, Spaces, all, lacks, or_lacks, lacking, replaced, up_to, Filling}
use Rattle.path.proofs.Parts.{rows_got, space_yes, space_no, first_of, lacking_last, resolved_last, no_fewer}

-- ROWS UP TO A PLACE

-- rows were written up to w; then others up to where those start
pub up_to_more : (t : List ℕ) (w : ℕ) (front back : List Row) {v : ℕ} {u : List ℕ} → (v, u) ≡ up_to t w back → length front + length back ≤ w → up_to u v front ≡ up_to t w (front ++ back)
unfolding up_to
up_to_more t w front back {v} {u} e h =
    let p : v ≡ w - length back = ap (λ (x : ℕ × List ℕ). x.0) e in
    let q : u ≡ with_rows t (w - length back) back = ap (λ (x : ℕ × List ℕ). x.1) e in
    let l : length (front ++ back) ≡ length front + length back = length-append front back in
    let d : w - length (front ++ back) ≡ w - length back - length front = omega arith in
    let f : w - length back - length front + length front ≡ w - length back = omega arith in
    let s : with_rows (with_rows t (w - length back) back) (w - length back - length front) front ≡ with_rows t (w - length back - length front) (front ++ back) =
    with_rows_swap t (w - length back - length front) front (w - length back) back (omega arith)
    ∙ ap (λ (i : ℕ). with_rows (with_rows t (w - length back - length front) front) i back) (sym f)
    ∙ sym (with_rows-append t (w - length back - length front) front back) in
    rw (p, q, d) (ap (λ (x : List ℕ). (w - length back - length front, x)) s)

-- one row
up_to_one : (t : List ℕ) (w : ℕ) (r : Row) {u : List ℕ} → u ≡ with_row t (w - 1) r → (w - 1, u) ≡ up_to t w (r ∷ [])
unfolding up_to with_rows
up_to_one t w r e = ap (λ (x : List ℕ). (w - 1, x)) e

-- no row
up_to_none : (t : List ℕ) (w : ℕ) → up_to t w [] ≡ (w, t)
unfolding up_to with_rows
up_to_none t w = rw sub-zero

-- THE ROWS OF A SPACE

-- o is what the definition gives for the whole, of a run that was as long as l says; the first k rows of the source are left, and go up to row w
pub record Placing (o : ℕ × List ℕ) (l : ℕ) (source : List ℕ) (s : ℕ) (t : List ℕ) (k w : ℕ) : Type 0 where
  pub held : up_to t w (in_space s (rows_of k source)) ≡ o
  pub fits : length (in_space s (rows_of k source)) ≤ w
  pub there : k ≤ room source
  pub same : length t ≡ l

pub place_start : (source : List ℕ) (s : ℕ) (t : List ℕ) (m end : ℕ) → (m ≤ room source) × (length (in_space s (rows_of m source)) ≤ end)
    → Placing (up_to t end (in_space s (rows_of m source))) (length t) source s t m end
place_start source s t m end (a, b) = record { held = refl; fits = b; there = a; same = refl }

module _ {o : ℕ × List ℕ} {l : ℕ} {source : List ℕ} {s : ℕ} {t : List ℕ} {k w : ℕ} (h : Placing o l source s t k w) where
  -- no row is left
  pub place_end : k ≤ 0 → (w, t) ≡ o
  unfolding rows_of
  place_end p =
      let e : k ≡ 0 = omega arith in
      let g : up_to t w (in_space s (rows_of 0 source)) ≡ o = rw e at h.held in
      sym (up_to_none t w) ∙ g

  module _ (p : 0 < k) (row : code.Row) (e : row ≡ in_halves (row_at source (k - 1))) where
    last : k ≡ k - 1 + 1
    last = omega arith

    -- the last row left is of the space: it has a place, and is written there
    module _ (y : row.space ≡ s) where
      placed : in_space s (rows_of k source) ≡ in_space s (rows_of (k - 1) source) ++ (seen row ∷ [])
      placed = ap (λ (i : ℕ). in_space s (rows_of i source)) last ∙ space_yes (k - 1) source row (omega arith) e s y

      one_more : length (in_space s (rows_of k source)) ≡ length (in_space s (rows_of (k - 1) source)) + 1
      one_more = ap length placed ∙ length-append (in_space s (rows_of (k - 1) source)) (seen row ∷ [])

      pub place_room : 1 ≤ w
      place_room = omega (arith, one_more, h.fits)

      pub place_yes : (u : List ℕ) → u ≡ with_row t (w - 1) (seen row) → Placing o l source s u (k - 1) (w - 1)
      place_yes u q =
          record {
            held = up_to_more t w (in_space s (rows_of (k - 1) source)) (seen row ∷ []) (up_to_one t w (seen row) q) (omega (arith, one_more, h.fits)) ∙ rw (← placed) h.held;
            fits = omega (arith, one_more, h.fits);
            there = omega (arith, h.there);
            same = ap length q ∙ length_with_row t (w - 1) (seen row) ∙ h.same;
          }

    -- it is not
    pub place_no : (row.space ≡ s → ⊥) → Placing o l source s t (k - 1) w
    place_no n =
        let left : in_space s (rows_of k source) ≡ in_space s (rows_of (k - 1) source) = ap (λ (i : ℕ). in_space s (rows_of i source)) last ∙ space_no (k - 1) source row (omega arith) e s n in
        record { held = rw left at h.held; fits = rw left at h.fits; there = omega (arith, h.there); same = h.same }

-- ONE ROW

-- it does not inherit
pub row_lists : (issuer : List Row) (row : code.Row) (t : List ℕ) (end : ℕ) (u : List ℕ) → (row.inherit ≡ 1 → ⊥) → u ≡ with_row t (end - 1) (seen row) → (end - 1, u) ≡ up_to t end (replaced issuer (seen row))
row_lists issuer row t end u e h = rw (ne_eqb row.inherit 1 e) (up_to_one t end (seen row) h)

-- ALL ROWS

-- o is what the definition gives for the whole, of a run that was as long as l says; the first k rows are left, and go up to row w
pub record Resolving (o : List ℕ) (l : ℕ) (issuer : List Row) (t : List ℕ) (k w : ℕ) : Type 0 where
  pub left : Filling issuer t k w
  pub held : up_to t w (resolved issuer (rows_of k t)) ≡ (0, o)
  pub same : length t ≡ l

pub resolve_start : (issuer : List Row) (t : List ℕ) (n total : ℕ) → Filling issuer t n total → Resolving (with_rows t 0 (resolved issuer (rows_of n t))) (length t) issuer t n total
unfolding up_to
resolve_start issuer t n total f =
    let e : total - length (resolved issuer (rows_of n t)) ≡ 0 = omega (arith, f.upto) in
    record { left = f; held = rw e; same = refl }

module _ {o : List ℕ} {l : ℕ} {issuer : List Row} {t : List ℕ} {k w : ℕ} (h : Resolving o l issuer t k w) where
  -- no row is left
  pub resolve_end : k ≤ 0 → t ≡ o
  unfolding rows_of
  resolve_end p =
      let e : k ≡ 0 = omega arith in
      let g : up_to t w (resolved issuer (rows_of 0 t)) ≡ (0, o) = rw e at h.held in
      ap (λ (x : ℕ × List ℕ). x.1) (sym (up_to_none t w) ∙ g)

  module _ (p : 0 < k) (row : code.Row) (e : row ≡ in_halves (row_at t (k - 1))) where
    got : rows_of k t ≡ rows_of (k - 1) t ++ (seen row ∷ [])
    got =
        let last : k ≡ k - 1 + 1 = omega arith in
        let i : k - 1 < room t = omega (arith, h.left.there) in
        ap (λ (j : ℕ). rows_of j t) last ∙ rows_got (k - 1) t row i e

    -- what the rows before are, and what this one is
    parts : resolved issuer (rows_of k t) ≡ resolved issuer (rows_of (k - 1) t) ++ replaced issuer (seen row)
    parts = ap (λ (rs : List Row). resolved issuer rs) got ∙ resolved_last issuer (rows_of (k - 1) t) (seen row)

    sizes : w ≡ length (resolved issuer (rows_of (k - 1) t)) + length (replaced issuer (seen row))
    sizes = h.left.upto ∙ ap length parts ∙ length-append (resolved issuer (rows_of (k - 1) t)) (replaced issuer (seen row))

    -- no space is lacking in the rows before
    covered : lacking issuer (rows_of (k - 1) t) ≡ all
    covered = go (lacking issuer (rows_of (k - 1) t)) (sym (ap (λ (rs : List Row). lacking issuer rs) got ∙ lacking_last issuer (rows_of (k - 1) t) (seen row)) ∙ h.left.covered)
      where
        go : (s : Spaces) → first_of s (or_lacks row.space (replaced issuer (seen row)) all) ≡ all → s ≡ all
        go all q = refl
        go (lacks x) q = q

    pub resolve_fits : length (replaced issuer (seen row)) ≤ w
    resolve_fits = omega (arith, sizes)

    -- the row's rows are written, and the rows before it are as they were
    pub resolve_turn : (v : ℕ) (u : List ℕ) → (v, u) ≡ up_to t w (replaced issuer (seen row)) → Resolving o l issuer u (k - 1) v
    unfolding up_to
    resolve_turn v u q =
        let a : v ≡ w - length (replaced issuer (seen row)) = ap (λ (x : ℕ × List ℕ). x.0) q in
        let b : u ≡ with_rows t v (replaced issuer (seen row)) = rw a (ap (λ (x : ℕ × List ℕ). x.1) q) in
        let d : v ≡ length (resolved issuer (rows_of (k - 1) t)) = omega (arith, sizes, a) in
        let g : k - 1 ≤ v = omega (arith, d, no_fewer issuer (rows_of (k - 1) t) covered, length_rows_of (k - 1) t) in
        let f : rows_of (k - 1) u ≡ rows_of (k - 1) t = rw b (rows_kept (k - 1) t v (replaced issuer (seen row)) g) in
        let n : length u ≡ length t = ap length b ∙ length-with_rows t v (replaced issuer (seen row)) in
        record {
          left = record { there = omega (arith, n, h.left.there); covered = rw f covered; upto = rw f d };
          held = rw f (up_to_more t w (resolved issuer (rows_of (k - 1) t)) (replaced issuer (seen row)) q (omega (arith, sizes)) ∙ rw (← parts) h.held);
          same = n ∙ h.same;
        }
