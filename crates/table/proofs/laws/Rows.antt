-- Rows that are written and read, and numbers that are cleared. Assumes nothing.
--     get_put, get_other         the row that was written, and any other
--     rows_put                   the rows before it, and then it
--     length_with_row             a run keeps its length
--     kept_outside               the numbers of no other row change
--     rows_alike, rows_last      runs that agree in their rows' numbers; the last of some rows
--     length_rows_of, rows_split, rows_read    n rows are n, the first k of them and the others, and the last one as it is read
--     rows_cut, rows_first, rows_none    all rows of a run: one that is cut off after n rows, the first row and the others, and none
--     with_row_later              the numbers after a table's rows stay
--     with_row_swap               two rows are written in either order
--     with_rows-append, with_rows_snoc, length-with_rows, with_rows_later, with_rows_swap    the same of rows one after another
--     with_row_over, with_rows_over    what is written over is gone
--     with_row_same, with_rows_same    a run's own rows, written where they are, change nothing
--     rows_kept, rows_written    the rows before those that are written, and those that are
--     length-cleared, cleared_zero, cleared_later
--     cleared_twice, cleared_rows    what is cleared does not matter
use mathlib.Core.Path.{◌≡◌, refl, sym, ap, ap₂, ◌∙◌}
use mathlib.Core.List.{List, [], ◌∷◌, ◌++◌, append-nil, append_assoc}
use mathlib.Core.Logic.{◌⊎◌, inl, inr}
use Prim.Native.Nat.{ℕ, zero, suc, min, ◌+◌, ◌-◌, ◌*◌, ◌^◌, ◌≤◌, ◌<◌}
use native.Mathlib.Nat.{add-zero, zero-add, suc-add}
use native.Mathlib.Numerals.{add-one}
use native.Mathlib.Omega.{arith}
use lib.ListN.{length, get_or, take, drop, replicate, take-append-drop, length-append, length-take, length-drop, length-replicate, get_or-replicate, get_or-append, get_or-eq_default}
use lib.Dec.{ltb}
use lib.Pow.{high, low}
use lib.Seq.{ext_get_or, length-take-le, drop-drop, drop_at, drop-append-add, get_or-take, get_or-drop, get_or-append-add}
use borrow.Author.Tests.{lt-ltb, le-ltb}
use Rattle.number.specs.Tests.{pick}
use Rattle.number.proofs.Picks.{below, pick_yes}
use Rattle.table.specs.Sizes.{row_numbers, max_rows, table_numbers}
use Rattle.table.specs.Rows.{Row, nothing, numbers, front, room, row_at, with_row, with_rows, rows_of, rows_all, cleared}
use Rattle.table.proofs.Columns.{row_at_lem, front_numbers, front_alike}
use Rattle.table.proofs.Listing.{rows_more}

-- past the first of two lists
past : (xs ys : List ℕ) (m i : ℕ) → length xs ≡ m → m ≤ i → get_or (xs ++ ys) i 0 ≡ get_or ys (i - m) 0
past xs ys m i e h =
    let q : i ≡ length xs + (i - m) = omega arith in
    ap (λ (k : ℕ). get_or (xs ++ ys) k 0) q ∙ get_or-append-add xs ys (i - m) 0

-- WRITTEN AND READ

module _ (t : List ℕ) (n : ℕ) (r : Row) where
  -- the numbers before the row and after it
  abbrev front_part : List ℕ
  front_part = take (row_numbers * n) t

  abbrev back_part : List ℕ
  back_part = drop (row_numbers * n + row_numbers) t

  -- where the run has row n, and where it has none
  with_in : n < room t → with_row t n r ≡ front_part ++ numbers r ++ back_part
  unfolding with_row
  with_in h = rw (lt-ltb n (room t) h)

  with_out : room t ≤ n → with_row t n r ≡ t
  unfolding with_row
  with_out h = rw (le-ltb n (room t) h)

  -- the numbers before row n
  length_front_part : n < room t → length front_part ≡ row_numbers * n
  length_front_part h = length-take-le (row_numbers * n) t (omega arith)

  -- a run keeps its length
  pub length_with_row : length (with_row t n r) ≡ length t
  length_with_row = go (below n (room t))
    where
      go : (n < room t) ⊎ (room t ≤ n) → length (with_row t n r) ≡ length t
      go (inl h) = rw (with_in h) (simp (length-append, length-take, length-drop) (omega arith))
      go (inr h) = ap length (with_out h)

  -- the numbers before the row and after it stay
  pub kept_outside : (i : ℕ) → (i < row_numbers * n) ⊎ (row_numbers * n + row_numbers ≤ i) → get_or (with_row t n r) i 0 ≡ get_or t i 0
  kept_outside i o = go (below n (room t)) o
    where
      go : (n < room t) ⊎ (room t ≤ n) → (i < row_numbers * n) ⊎ (row_numbers * n + row_numbers ≤ i) → get_or (with_row t n r) i 0 ≡ get_or t i 0
      go (inr h) o = ap (λ (l : List ℕ). get_or l i 0) (with_out h)
      go (inl h) (inl b) =
          let q : i < length front_part = omega (arith, length_front_part h) in
          ap (λ (l : List ℕ). get_or l i 0) (with_in h ∙ append_assoc front_part (numbers r) back_part)
          ∙ get_or-append front_part (numbers r ++ back_part) 0 i q
          ∙ get_or-take (row_numbers * n) t i 0 b
      go (inl h) (inr a) =
          let q : length (front_part ++ numbers r) ≡ row_numbers * n + row_numbers = length-append front_part (numbers r) ∙ ap (λ (m : ℕ). m + row_numbers) (length_front_part h) in
          let d : row_numbers * n + row_numbers + (i - (row_numbers * n + row_numbers)) ≡ i = omega arith in
          ap (λ (l : List ℕ). get_or l i 0) (with_in h)
          ∙ past (front_part ++ numbers r) back_part (row_numbers * n + row_numbers) i q a
          ∙ get_or-drop (row_numbers * n + row_numbers) t (i - (row_numbers * n + row_numbers)) 0
          ∙ ap (λ (k : ℕ). get_or t k 0) d

  -- the numbers of the row are those that were written
  put_at : (i : ℕ) → n < room t → row_numbers * n ≤ i → i < row_numbers * n + row_numbers → get_or (with_row t n r) i 0 ≡ get_or (numbers r) (i - row_numbers * n) 0
  put_at i h a b =
      let q : i - row_numbers * n < length (numbers r) = omega arith in
      ap (λ (l : List ℕ). get_or l i 0) (with_in h ∙ append_assoc front_part (numbers r) back_part)
      ∙ past front_part (numbers r ++ back_part) (row_numbers * n) i (length_front_part h) a
      ∙ get_or-append (numbers r) back_part 0 (i - row_numbers * n) q

  -- the row that was written is read
  front_put : n < room t → front (drop (row_numbers * n) (with_row t n r)) ≡ r
  front_put h =
      ap (λ (l : List ℕ). front (drop (row_numbers * n) l)) (with_in h ∙ append_assoc front_part (numbers r) back_part)
      ∙ ap (λ (l : List ℕ). front l) (drop_at front_part (numbers r ++ back_part) (row_numbers * n) (length_front_part h))
      ∙ front_numbers r back_part

  -- and so by its place
  pub get_put : n < room t → row_at (with_row t n r) n ≡ r
  get_put h =
      let f : n < room (with_row t n r) = rw length_with_row h in
      row_at_lem (with_row t n r) n f ∙ front_put h

  -- any other row is as it was
  pub get_other : (m : ℕ) → (m ≡ n → ⊥) → row_at (with_row t n r) m ≡ row_at t m
  unfolding row_at
  get_other m d = rw length_with_row (ap (λ (x : Row). pick (ltb m (room t)) x nothing) (front_alike (drop (row_numbers * m) (with_row t n r)) (drop (row_numbers * m) t) same))
    where
      side : (i : ℕ) → i < row_numbers → (m < n) ⊎ (n ≤ m) → (row_numbers * m + i < row_numbers * n) ⊎ (row_numbers * n + row_numbers ≤ row_numbers * m + i)
      side i h (inl b) = inl (omega arith)
      side i h (inr a) = inr (omega arith)

      same : (i : ℕ) → i < row_numbers → get_or (drop (row_numbers * m) (with_row t n r)) i 0 ≡ get_or (drop (row_numbers * m) t) i 0
      same i h = get_or-drop (row_numbers * m) (with_row t n r) i 0 ∙ kept_outside (row_numbers * m + i) (side i h (below m n)) ∙ sym (get_or-drop (row_numbers * m) t i 0)

-- runs that agree in the numbers of n rows have the same n rows
pub rows_alike : (n : ℕ) (a b : List ℕ) → ((i : ℕ) → i < row_numbers * n → get_or a i 0 ≡ get_or b i 0) → rows_of n a ≡ rows_of n b
unfolding rows_of
rows_alike zero a b h = refl
rows_alike (suc n) a b h =
    ap₂ (λ (r : Row) (rs : List Row). r ∷ rs)
    (front_alike a b (λ i p. h i (omega arith)))
    (rows_alike n (drop row_numbers a) (drop row_numbers b) (λ i p. get_or-drop row_numbers a i 0 ∙ h (row_numbers + i) (omega arith) ∙ sym (get_or-drop row_numbers b i 0)))

-- the last of n + 1 rows
pub rows_last : (n : ℕ) (t : List ℕ) → rows_of (suc n) t ≡ rows_of n t ++ (front (drop (row_numbers * n) t) ∷ [])
unfolding rows_of
rows_last zero t = refl
rows_last (suc n) t =
    let e : row_numbers + row_numbers * n ≡ row_numbers * suc n = omega arith in
    ap (λ (rs : List Row). front t ∷ rs) (rows_last n (drop row_numbers t))
    ∙ ap (λ (l : List ℕ). front t ∷ (rows_of n (drop row_numbers t) ++ (front l ∷ []))) (drop-drop (row_numbers * n) row_numbers t ∙ ap (λ (k : ℕ). drop k t) e)

-- n rows are n
pub length_rows_of : (n : ℕ) (t : List ℕ) → length (rows_of n t) ≡ n
unfolding rows_of
length_rows_of zero t = refl
length_rows_of (suc n) t = ap suc (length_rows_of n (drop row_numbers t))

-- the first k rows, and the others
pub rows_split : (k m : ℕ) (t : List ℕ) → rows_of (k + m) t ≡ rows_of k t ++ rows_of m (drop (row_numbers * k) t)
unfolding rows_of
rows_split zero m t = rw zero-add
rows_split (suc k) m t =
    let e : row_numbers + row_numbers * k ≡ row_numbers * suc k = omega arith in
    rw suc-add
    (ap (λ (rs : List Row). front t ∷ rs) (rows_split k m (drop row_numbers t))
    ∙ ap (λ (l : List ℕ). front t ∷ (rows_of k (drop row_numbers t) ++ rows_of m l)) (drop-drop (row_numbers * k) row_numbers t ∙ ap (λ (i : ℕ). drop i t) e))

-- one row more, as it is read
pub rows_read : (k : ℕ) (t : List ℕ) → k < room t → rows_of (k + 1) t ≡ rows_of k t ++ (row_at t k ∷ [])
rows_read k t h = ap (λ (i : ℕ). rows_of i t) (add-one k) ∙ rows_last k t ∙ ap (λ (r : Row). rows_of k t ++ (r ∷ [])) (sym (row_at_lem t k h))

-- the rows of a run that is cut off after n rows
pub rows_cut : (n : ℕ) (t : List ℕ) → n ≤ room t → rows_all (take (row_numbers * n) t) ≡ rows_of n t
rows_cut n t h =
    let e : room (take (row_numbers * n) t) ≡ n = rw (length-take-le (row_numbers * n) t (omega arith)) (omega arith) in
    rw e (rows_alike n (take (row_numbers * n) t) t (λ i b. get_or-take (row_numbers * n) t i 0 b))

-- all rows of a run are its first one and those after it
pub rows_first : (t : List ℕ) → row_numbers ≤ length t → rows_all t ≡ row_at t 0 ∷ rows_all (drop row_numbers t)
rows_first t h =
    let e : room t ≡ suc (room (drop row_numbers t)) = rw length-drop (omega arith) in
    rw e (rows_more t 0 (room (drop row_numbers t)) (omega arith))

-- a run too short for a row has none
pub rows_none : (t : List ℕ) → length t < row_numbers → rows_all t ≡ []
unfolding rows_of
rows_none t h = let e : room t ≡ 0 = omega arith in rw e

-- the rows before the written one, and then it
pub rows_put : (t : List ℕ) (n : ℕ) (r : Row) → n < room t → rows_of (n + 1) (with_row t n r) ≡ rows_of n t ++ (r ∷ [])
rows_put t n r h =
    ap (λ (k : ℕ). rows_of k (with_row t n r)) (add-one n)
    ∙ rows_last n (with_row t n r)
    ∙ ap₂ (λ (rs : List Row) (x : Row). rs ++ (x ∷ [])) (rows_alike n (with_row t n r) t (λ i b. kept_outside t n r i (inl b))) (front_put t n r h)

-- what comes after the row stays
later : (m : ℕ) (t : List ℕ) (n : ℕ) (r : Row) → row_numbers * n + row_numbers ≤ m → drop m (with_row t n r) ≡ drop m t
later m t n r h = go (below n (room t))
  where
    go : (n < room t) ⊎ (room t ≤ n) → drop m (with_row t n r) ≡ drop m t
    go (inr o) = ap (λ (l : List ℕ). drop m l) (with_out t n r o)
    go (inl i) =
        let front : List ℕ = take (row_numbers * n) t ++ numbers r in
        let e : length front ≡ row_numbers * n + row_numbers = length-append (take (row_numbers * n) t) (numbers r) ∙ ap (λ (k : ℕ). k + row_numbers) (length_front_part t n r i) in
        let k : ℕ = m - (row_numbers * n + row_numbers) in
        let p : m ≡ length front + k = omega arith in
        let q : row_numbers * n + row_numbers + k ≡ m = omega arith in
        ap (λ (l : List ℕ). drop m l) (with_in t n r i)
        ∙ ap (λ (j : ℕ). drop j (front ++ drop (row_numbers * n + row_numbers) t)) p
        ∙ drop-append-add front (drop (row_numbers * n + row_numbers) t) k
        ∙ drop-drop k (row_numbers * n + row_numbers) t
        ∙ ap (λ (j : ℕ). drop j t) q

-- the numbers after a table's rows stay
pub with_row_later : (t : List ℕ) (n : ℕ) (r : Row) → n < max_rows → drop table_numbers (with_row t n r) ≡ drop table_numbers t
with_row_later t n r h = later table_numbers t n r (omega arith)

-- TWO ROWS

-- the number at i lies in no column of row n
abbrev Outside : ℕ → ℕ → Type 0
Outside n i = (i < row_numbers * n) ⊎ (row_numbers * n + row_numbers ≤ i)

-- of two rows it lies in one at most
apart : (m n i : ℕ) → (m ≡ n → ⊥) → Outside m i ⊎ Outside n i
apart m n i d = go (below i (row_numbers * m)) (below i (row_numbers * m + row_numbers)) (below m n)
  where
    go : (i < row_numbers * m) ⊎ (row_numbers * m ≤ i) → (i < row_numbers * m + row_numbers) ⊎ (row_numbers * m + row_numbers ≤ i) → (m < n) ⊎ (n ≤ m) → Outside m i ⊎ Outside n i
    go (inl a) b c = inl (inl a)
    go (inr a) (inr b) c = inl (inr b)
    go (inr a) (inl b) (inl c) = inr (inl (omega arith))
    go (inr a) (inl b) (inr c) = inr (inr (omega arith))

-- of two runs that are alike at i, so are those with a row written
put_alike : (t u : List ℕ) (n : ℕ) (r : Row) (i : ℕ) → length t ≡ length u → get_or t i 0 ≡ get_or u i 0 → get_or (with_row t n r) i 0 ≡ get_or (with_row u n r) i 0
put_alike t u n r i l e = go (below i (row_numbers * n)) (below i (row_numbers * n + row_numbers)) (below n (room t))
  where
    out : Outside n i → get_or (with_row t n r) i 0 ≡ get_or (with_row u n r) i 0
    out o = kept_outside t n r i o ∙ e ∙ sym (kept_outside u n r i o)

    go : (i < row_numbers * n) ⊎ (row_numbers * n ≤ i) → (i < row_numbers * n + row_numbers) ⊎ (row_numbers * n + row_numbers ≤ i) → (n < room t) ⊎ (room t ≤ n) → get_or (with_row t n r) i 0 ≡ get_or (with_row u n r) i 0
    go (inl a) b c = out (inl a)
    go (inr a) (inr b) c = out (inr b)
    go (inr a) (inl b) (inl c) = put_at t n r i c a b ∙ sym (put_at u n r i (rw l at c) a b)
    go (inr a) (inl b) (inr c) = ap (λ (x : List ℕ). get_or x i 0) (with_out t n r c) ∙ e ∙ sym (ap (λ (x : List ℕ). get_or x i 0) (with_out u n r (rw l at c)))

-- two rows are written in either order
pub with_row_swap : (t : List ℕ) (m n : ℕ) (q r : Row) → (m ≡ n → ⊥) → with_row (with_row t m q) n r ≡ with_row (with_row t n r) m q
with_row_swap t m n q r d = ext_get_or 0 (with_row (with_row t m q) n r) (with_row (with_row t n r) m q) same (λ i b. go i (apart m n i d))
  where
    same : length (with_row (with_row t m q) n r) ≡ length (with_row (with_row t n r) m q)
    same = simp length_with_row

    go : (i : ℕ) → Outside m i ⊎ Outside n i → get_or (with_row (with_row t m q) n r) i 0 ≡ get_or (with_row (with_row t n r) m q) i 0
    go i (inl o) = put_alike (with_row t m q) t n r i (length_with_row t m q) (kept_outside t m q i o) ∙ sym (kept_outside (with_row t n r) m q i o)
    go i (inr o) = kept_outside (with_row t m q) n r i o ∙ sym (put_alike (with_row t n r) t m q i (length_with_row t n r) (kept_outside t n r i o))

-- a row that is written over is gone
pub with_row_over : (t : List ℕ) (n : ℕ) (q r : Row) → with_row (with_row t n q) n r ≡ with_row t n r
with_row_over t n q r = ext_get_or 0 (with_row (with_row t n q) n r) (with_row t n r) (simp length_with_row) (λ i b. go i (below i (row_numbers * n)) (below i (row_numbers * n + row_numbers)) (below n (room t)))
  where
    out : (i : ℕ) → Outside n i → get_or (with_row (with_row t n q) n r) i 0 ≡ get_or (with_row t n r) i 0
    out i o = kept_outside (with_row t n q) n r i o ∙ kept_outside t n q i o ∙ sym (kept_outside t n r i o)

    go : (i : ℕ) → (i < row_numbers * n) ⊎ (row_numbers * n ≤ i) → (i < row_numbers * n + row_numbers) ⊎ (row_numbers * n + row_numbers ≤ i) → (n < room t) ⊎ (room t ≤ n) → get_or (with_row (with_row t n q) n r) i 0 ≡ get_or (with_row t n r) i 0
    go i (inl a) b c = out i (inl a)
    go i (inr a) (inr b) c = out i (inr b)
    go i (inr a) (inl b) (inl c) = put_at (with_row t n q) n r i (rw length_with_row c) a b ∙ sym (put_at t n r i c a b)
    go i (inr a) (inl b) (inr c) = ap (λ (l : List ℕ). get_or (with_row l n r) i 0) (with_out t n q c)

-- ROWS ONE AFTER ANOTHER

-- some, and then others
pub with_rows-append : (t : List ℕ) (n : ℕ) (rs qs : List Row) → with_rows t n (rs ++ qs) ≡ with_rows (with_rows t n rs) (n + length rs) qs
unfolding with_rows
with_rows-append t n [] qs = rw add-zero
with_rows-append t n (r ∷ rs) qs =
    let e : n + 1 + length rs ≡ n + suc (length rs) = omega arith in
    with_rows-append (with_row t n r) (n + 1) rs qs ∙ ap (λ (k : ℕ). with_rows (with_rows (with_row t n r) (n + 1) rs) k qs) e

-- and then one
pub with_rows_snoc : (t : List ℕ) (n : ℕ) (rs : List Row) (r : Row) → with_rows t n (rs ++ (r ∷ [])) ≡ with_row (with_rows t n rs) (n + length rs) r
unfolding with_rows
with_rows_snoc t n rs r = with_rows-append t n rs (r ∷ [])

-- a run keeps its length
pub length-with_rows : (t : List ℕ) (n : ℕ) (rs : List Row) → length (with_rows t n rs) ≡ length t
unfolding with_rows
length-with_rows t n [] = refl
length-with_rows t n (r ∷ rs) = length-with_rows (with_row t n r) (n + 1) rs ∙ length_with_row t n r

-- the numbers after a table's rows stay
pub with_rows_later : (t : List ℕ) (n : ℕ) (rs : List Row) → n + length rs ≤ max_rows → drop table_numbers (with_rows t n rs) ≡ drop table_numbers t
unfolding with_rows
with_rows_later t n [] h = refl
with_rows_later t n (r ∷ rs) h = with_rows_later (with_row t n r) (n + 1) rs (omega arith) ∙ with_row_later t n r (omega arith)

-- a row before them
with_row_with_rows : (t : List ℕ) (m : ℕ) (q : Row) (n : ℕ) (rs : List Row) → m < n → with_row (with_rows t n rs) m q ≡ with_rows (with_row t m q) n rs
unfolding with_rows
with_row_with_rows t m q n [] h = refl
with_row_with_rows t m q n (r ∷ rs) h =
    with_row_with_rows (with_row t n r) m q (n + 1) rs (omega arith) ∙ ap (λ (l : List ℕ). with_rows l (n + 1) rs) (with_row_swap t n m r q (λ e. omega arith))

-- rows before others are written in either order
pub with_rows_swap : (t : List ℕ) (m : ℕ) (qs : List Row) (n : ℕ) (rs : List Row) → m + length qs ≤ n → with_rows (with_rows t n rs) m qs ≡ with_rows (with_rows t m qs) n rs
unfolding with_rows
with_rows_swap t m [] n rs h = refl
with_rows_swap t m (q ∷ qs) n rs h = rw (with_row_with_rows t m q n rs (omega arith)) (with_rows_swap (with_row t m q) (m + 1) qs n rs (omega arith))

-- the rows before them are as they were
pub rows_kept : (k : ℕ) (t : List ℕ) (n : ℕ) (rs : List Row) → k ≤ n → rows_of k (with_rows t n rs) ≡ rows_of k t
unfolding with_rows
rows_kept k t n [] h = refl
rows_kept k t n (r ∷ rs) h = rows_kept k (with_row t n r) (n + 1) rs (omega arith) ∙ rows_alike k (with_row t n r) t (λ i b. kept_outside t n r i (inl (omega arith)))

-- the rows before them, and then those that are written
rows_on : (t : List ℕ) (n : ℕ) (rs : List Row) → n + length rs ≤ room t → rows_of (n + length rs) (with_rows t n rs) ≡ rows_of n t ++ rs
unfolding with_rows
rows_on t n [] h = rw (add-zero, append-nil)
rows_on t n (r ∷ rs) h =
    let e : n + suc (length rs) ≡ n + 1 + length rs = omega arith in
    let k : n + 1 + length rs ≤ room (with_row t n r) = rw length_with_row (omega arith) in
    ap (λ (i : ℕ). rows_of i (with_rows (with_row t n r) (n + 1) rs)) e
    ∙ rows_on (with_row t n r) (n + 1) rs k
    ∙ ap (λ (l : List Row). l ++ rs) (rows_put t n r (omega arith))
    ∙ append_assoc (rows_of n t) (r ∷ []) rs

-- from the first row on
pub rows_written : (t : List ℕ) (rs : List Row) → length rs ≤ room t → rows_of (length rs) (with_rows t 0 rs) ≡ rs
unfolding rows_of
rows_written t rs h = rw zero-add at (rows_on t 0 rs (rw zero-add h))

-- rows that are written over by as many are gone
pub with_rows_over : (t : List ℕ) (n : ℕ) (qs rs : List Row) → length qs ≤ length rs → with_rows (with_rows t n qs) n rs ≡ with_rows t n rs
unfolding with_rows
with_rows_over t n [] rs h = refl
with_rows_over t n (q ∷ qs) [] h = absurd (omega arith)
with_rows_over t n (q ∷ qs) (r ∷ rs) h =
    rw (with_row_with_rows (with_row t n q) n r (n + 1) qs (omega arith), with_row_over t n q r)
    (with_rows_over (with_row t n r) (n + 1) qs rs (omega arith))

-- CLEARED

module _ (n : ℕ) (t : List ℕ) where
  -- a run keeps its length
  pub length-cleared : length (cleared n t) ≡ length t
  unfolding cleared
  length-cleared = simp (length-append, length-replicate, length-drop) (omega arith)

  -- past the run's end there is nothing
  at_end : (k : ℕ) → length t ≤ k → get_or (cleared n t) k 0 ≡ 0
  at_end k h = get_or-eq_default (cleared n t) 0 (rw length-cleared h)

  -- what was to be cleared is zero, or not there
  pub cleared_zero : (k : ℕ) → k < n → get_or (cleared n t) k 0 ≡ 0
  unfolding cleared
  cleared_zero k h = go (below k (length t))
    where
      go : (k < length t) ⊎ (length t ≤ k) → get_or (cleared n t) k 0 ≡ 0
      go (inl b) =
          let zeros : List ℕ = replicate (min n (length t)) 0 in
          let q : k < min n (length t) = omega arith in
          let p : k < length zeros = rw length-replicate q in
          get_or-append zeros (drop n t) 0 k p ∙ get_or-replicate (min n (length t)) k 0 0 q
      go (inr a) = at_end k a

  -- what comes later stays
  pub cleared_later : (k : ℕ) → n ≤ k → get_or (cleared n t) k 0 ≡ get_or t k 0
  unfolding cleared
  cleared_later k h = go (below k (length t))
    where
      go : (k < length t) ⊎ (length t ≤ k) → get_or (cleared n t) k 0 ≡ get_or t k 0
      go (inl b) =
          let q : min n (length t) ≡ n = omega arith in
          let d : n + (k - n) ≡ k = omega arith in
          rw q (past (replicate n 0) (drop n t) n k (length-replicate n 0) h ∙ get_or-drop n t (k - n) 0 ∙ ap (λ (i : ℕ). get_or t i 0) d)
      go (inr a) = at_end k a ∙ sym (get_or-eq_default t 0 a)

-- A RUN'S OWN ROWS

-- the numbers of the row that a run begins with are its first ones
front_same : (d : List ℕ) → row_numbers ≤ length d → ((i : ℕ) → get_or d i 0 < 2 ^ 64) → numbers (front d) ≡ take row_numbers d
front_same (a ∷ b ∷ c ∷ e ∷ f ∷ g ∷ d) h l = rw (high c 64 (l 3), low c 64 (l 3), high f 64 (l 5), low f 64 (l 5)) refl
front_same (a ∷ b ∷ c ∷ e ∷ f ∷ []) h l = absurd (omega arith)
front_same (a ∷ b ∷ c ∷ e ∷ []) h l = absurd (omega arith)
front_same (a ∷ b ∷ c ∷ []) h l = absurd (omega arith)
front_same (a ∷ b ∷ []) h l = absurd (omega arith)
front_same (a ∷ []) h l = absurd (omega arith)
front_same [] h l = absurd (omega arith)

-- a row that is written where it is
pub with_row_same : (t : List ℕ) (n : ℕ) → n < room t → ((i : ℕ) → get_or t i 0 < 2 ^ 64) → with_row t n (row_at t n) ≡ t
unfolding with_row
with_row_same t n h l =
    let d = drop (row_numbers * n) t in
    let g : (i : ℕ) → get_or d i 0 < 2 ^ 64 = (λ i. rw get_or-drop (l (row_numbers * n + i))) in
    let e : numbers (front d) ≡ take row_numbers d = front_same d (omega (arith, length-drop (row_numbers * n) t)) g in
    let u = take (row_numbers * n) t in
    let v = drop (row_numbers * n + row_numbers) t in
    let a : numbers (front d) ++ v ≡ d = ap₂ (λ (x y : List ℕ). x ++ y) e (sym (drop-drop row_numbers (row_numbers * n) t)) ∙ take-append-drop row_numbers d in
    let q : u ++ numbers (row_at t n) ++ v ≡ t = ap (λ (r : Row). u ++ numbers r ++ v) (row_at_lem t n h) ∙ append_assoc u (numbers (front d)) v ∙ ap (λ (x : List ℕ). u ++ x) a ∙ take-append-drop (row_numbers * n) t in
    sym (pick_yes (ltb n (room t)) t (u ++ numbers (row_at t n) ++ v) t (lt-ltb n (room t) h) (sym q))

-- and rows
pub with_rows_same : (m n : ℕ) (t : List ℕ) → n + m ≤ room t → ((i : ℕ) → get_or t i 0 < 2 ^ 64) → with_rows t n (rows_of m (drop (row_numbers * n) t)) ≡ t
unfolding with_rows
with_rows_same zero n t h l = unfold rows_of in refl
with_rows_same (suc m) n t h l =
    let rs = rows_of m (drop (row_numbers * (n + 1)) t) in
    ap (λ (xs : List Row). with_rows t n xs) (rows_more t n m (omega arith))
    ∙ ap (λ (u : List ℕ). with_rows u (n + 1) rs) (with_row_same t n (omega arith) l)
    ∙ with_rows_same m (n + 1) t (omega arith) l

-- what was there does not matter: numbers that are cleared already,
pub cleared_twice : (n : ℕ) (t : List ℕ) → cleared n (cleared n t) ≡ cleared n t
cleared_twice n t = ext_get_or 0 (cleared n (cleared n t)) (cleared n t) (length-cleared n (cleared n t)) (λ k b. go k (below k n))
  where
    go : (k : ℕ) → (k < n) ⊎ (n ≤ k) → get_or (cleared n (cleared n t)) k 0 ≡ get_or (cleared n t) k 0
    go k (inl h) = cleared_zero n (cleared n t) k h ∙ sym (cleared_zero n t k h)
    go k (inr h) = cleared_later n (cleared n t) k h

-- or a table's rows
pub cleared_rows : (t : List ℕ) (n : ℕ) (rs : List Row) → n + length rs ≤ max_rows → cleared table_numbers (with_rows t n rs) ≡ cleared table_numbers t
unfolding cleared
cleared_rows t n rs h = rw (length-with_rows, with_rows_later)
