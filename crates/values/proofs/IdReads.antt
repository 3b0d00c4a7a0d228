-- What the code of `ids` finds at each of its ends, in the terms of the definitions: for AS numbers and routing domain identifiers alike, over the number of the space. Theorems. Assumes nothing.
--     integer_..      `any_integer_at`.       pair_..     `brief_pair`
--     number_..    `brief_number`, and a number's row.     brief_..    what `brief_number` says.     span_..     a range's row
use mathlib.Core.Path.{◌≡◌, refl, sym, ap, ◌∙◌}
use mathlib.Core.List.{List}
use mathlib.Core.Bool.{Bool, true}
use Prim.Native.Nat.{ℕ, ◌+◌, ◌-◌, ◌*◌, ◌/◌, ◌^◌, ◌≤◌, ◌<◌}
use native.Mathlib.Omega.{arith}
use lib.Dec.{ltb}
use lib.ListN.{length, get_or, take, drop, length-take, length-drop}
use Rattle.number.specs.Octets.{Octets, value, octets}
use Rattle.number.specs.declared.refusal.Refusal.{Refusal}
use Rattle.number.specs.declared.refusal.Refusal.TheVariants as refusal
use Rattle.number.proofs.Picks.{pick_not, pick_is, rest_of}
use Rattle.number.proofs.laws.Octets.{value_octets_lem, octets_part}
use Rattle.table.specs.Rows.{in_halves}
use Rattle.table.specs.declared.rows.Row.{Row}
use Rattle.der.specs.Tags.{INTEGER, SEQUENCE}
use Rattle.der.specs.Integer.{integer_of, integer_size, integer_octets}
use Rattle.der.specs.Opening.{opening_of}
use Rattle.der.specs.Parts.{is}
use Rattle.der.specs.declared.integers.BadInteger.{BadInteger}
use Rattle.values.specs.Faults.{Fault, at}
use Rattle.values.specs.Choices.{listed_row}
use Rattle.values.specs.Ids.{integer_contents, integer_at, pair_at, apart, number_at, range_at}
use Rattle.values.specs.Seen.{integer_seen, IntegerIn, pair_at_seen, PairAtIn, range_seen}
use Rattle.values.specs.Briefs.{is_brief, BriefNumber, BriefPair}
use Rattle.values.proofs.Joins.{Refused, Took, tag_refused, tag_isnt, tag_took, sift_refused, sift_isnt, sift_took}
use Rattle.values.proofs.RowReads.{Rowed, row_took}
use Rattle.values.proofs.BriefReads.{brief_long, brief_tag, brief_least, brief_most, headed, both_taken, of_eight, begun}
use Rattle.values.proofs.laws.Elements.{integer_laws, pair_laws, number_size, pair_size}
use Rattle.der.specs.Opening.{Opening}
use Rattle.std.specs.Prelude.{Result, Ok, Err}
use Rattle.std.specs.Prelude.{Option, Some, None, MatchOption}
use Rattle.values.specs.Faults.{Taken}

-- a row is not none
no_row : {r : Row} → Some r ≡ None → ⊥
no_row e = let z : ◌≡◌ {A = ℕ} 0 1 = cc in omega arith

-- the ends of `any_integer_at`
module _ {r : Opening} (s : List ℕ) (p : r ≡ opening_of INTEGER s) where
  -- the head is refused
  pub integer_refused : (f : Refusal) → r ≡ Err f → Refused (integer_at s) (length s) (at 0 f)
  unfolding integer_at
  integer_refused f q = tag_refused INTEGER s p _ f q

  module _ {x : Result ℕ BadInteger} (k e : ℕ) (q : r ≡ Ok (k, e)) (g : x ≡ integer_of (take (e - k) (drop k s))) where
    -- the contents are, whatever the cause
    pub integer_isnt : (cause : BadInteger) → x ≡ Err cause → Refused (integer_at s) (length s) (at 0 refusal.Contents)
    unfolding integer_at
    integer_isnt cause h = tag_isnt INTEGER s p k e q (λ k c. integer_contents (integer_of c)) (at 0 refusal.Contents) (rw (← g, h) refl) (omega arith)

    -- a number
    pub integer_took : (n : ℕ) → x ≡ Ok n → Took (integer_at s) s n e
    unfolding integer_at
    integer_took n h = tag_took INTEGER s p k e q (λ k c. integer_contents (integer_of c)) n (rw (← g, h) refl)

-- the ends of `brief_number`
module _ {r : Bool} {n : ℕ} (s : List ℕ) (p : r ≡ is_brief INTEGER 1 5 s) (y : r ≡ true) (q : n ≡ get_or s 1 0) where
  -- it has at most five octets
  number_few : n ≤ 5
  number_few = omega (arith, brief_most INTEGER 1 5 s p y)

  -- their bits are bits of a word
  pub number_within : 8 * n ≤ 64
  number_within = omega (arith, number_few)

  -- and it has some
  pub number_some : 64 - 8 * n < 64
  number_some = omega (arith, brief_least INTEGER 1 5 s p y)

  -- a number that takes n octets
  pub number_taken : {v z : ℕ} → Octets s → v ≡ value (take 8 (take 8 (drop 2 s))) → v / 2 ^ (64 - 8 * n) ≤ 4294967295 → z ≡ integer_size (v / 2 ^ (64 - 8 * n)) → z ≡ n
      → BriefNumber s (Some (v / 2 ^ (64 - 8 * n), 2 + n))
  unfolding integer_octets
  number_taken {v} {z} b e l f g =
      let h = brief_long INTEGER 1 5 s p y in
      let c = take n (drop 2 s) in
      let i : length c ≡ n = omega (arith, number_few, length-take n (drop 2 s), length-drop 2 s) in
      let x : v / 2 ^ (64 - 8 * n) ≡ value c = ap (λ (t : ℕ). t / 2 ^ (64 - 8 * n)) e ∙ of_eight n 2 s b (omega (arith, number_few)) (omega arith) in
      let w : octets (integer_size (v / 2 ^ (64 - 8 * n))) (v / 2 ^ (64 - 8 * n)) ≡ c = rw (← f, g, x) (rw i at (value_octets_lem c (octets_part 2 n s b))) in
      (omega arith, l, (omega (arith, number_few), rw w (rw (brief_tag INTEGER 1 5 s p y) at (headed n s (omega (arith, number_few)) (sym q) (omega (arith, number_few))))))

-- what `brief_number` took
module _ (s : List ℕ) (x k : ℕ) (p : BriefNumber s (Some (x, k))) where
  -- an INTEGER
  pub brief_took : Took (integer_at s) s x k
  brief_took = let (l, m, f) = p in begun integer_laws x s k m (omega (arith, number_size x)) l f

  -- within s
  pub brief_inside : k ≤ length s
  brief_inside = brief_took.inside

  -- of few octets
  brief_few : k ≤ 19
  brief_few =
      let (l, m, f) = p in
      let i : length (take k s) ≤ 19 = rw f.1 (number_size x) in
      omega (arith, length-take k s)

-- and so an INTEGER, where what is not brief is one by N
pub brief_or : {N : Type 0} (s : List ℕ) (r : Taken ℕ) (o : Option (ℕ × ℕ)) → BriefNumber s o → (N → integer_seen s r ≡ integer_at s) → MatchOption o N (λ x. r ≡ Ok x) → integer_seen s r ≡ integer_at s
brief_or s r (Some (x, k)) b f m = rw m (brief_took s x k b).told
brief_or s r None b f m = f m

-- two of them, the second right after the first
module _ (s : List ℕ) (x k : ℕ) (p : BriefNumber (take (length s - 2) (drop 2 s)) (Some (x, k))) (y j : ℕ)
    (q : BriefNumber (take (length (take (length s - 2) (drop 2 s)) - k) (drop k (take (length s - 2) (drop 2 s)))) (Some (y, j))) where
  -- in a SEQUENCE
  pair_whole : 2 ≤ length s → get_or s 0 0 ≡ SEQUENCE → k + j ≡ get_or s 1 0 → Took (pair_at s) s (x, y) (2 + k + j)
  pair_whole h t e =
      let u : take (length s - 2) (drop 2 s) ≡ drop 2 s = rest_of 2 s in
      let (l, w, g) = rw u at p in
      let v : take (length (drop 2 s) - k) (drop k (drop 2 s)) ≡ drop k (drop 2 s) = rest_of k (drop 2 s) in
      let (m, z, i) = rw (u, v) at q in
      let f : k + j < 128 = omega (arith, brief_few _ x k p, brief_few _ y j q) in
      begun pair_laws (x, y) s (2 + k + j) (w, z) (omega (arith, pair_size (x, y))) (omega arith) (rw t at (both_taken s k j _ _ h e f g i))

  pub pair_brief : 2 ≤ length s → get_or s 0 0 ≡ SEQUENCE → k + j ≡ get_or s 1 0 → BriefPair s (Some ((x, y), 2 + k + j))
  pair_brief h t e = let w = pair_whole h t e in (w.some, w.told, w.inside)

-- what `integer_at` or `any_integer_at` answered
module _ {r : Taken ℕ} (s : List ℕ) (p : integer_seen s r ≡ integer_at s) (i : IntegerIn (length s) r) where
  -- a refusal
  integer_bad : (f : Fault) → r ≡ Err f → Refused (integer_at s) (length s) f
  integer_bad f h = record { told = rw h at p; inside = rw h at i }

  module _ (x k : ℕ) (h : r ≡ Ok (x, k)) where
    -- or a number
    integer_is : Took (integer_at s) s x k
    integer_is = let (l, m) = rw h at i in record { told = rw h at p; some = l; inside = m }

-- the ends of `number_at`
module _ {r : Taken ℕ} (s : List ℕ) (p : integer_seen s r ≡ integer_at s) (i : IntegerIn (length s) r) where
  -- nothing was read
  pub number_refused : (f : Fault) → r ≡ Err f → Refused (number_at s) (length s) f
  unfolding number_at
  number_refused f h = sift_refused (λ (x : ℕ). is (x, x)) (integer_at s) (length s) f (integer_bad s p i f h)

  -- a number
  pub number_took : {w : Row} (a x k : ℕ) → r ≡ Ok (x, k) → w ≡ in_halves (listed_row a (x, x)) → Rowed (number_at s) a s w k
  unfolding number_at
  number_took a x k h g = row_took (number_at s) a s x x k g (sift_took (λ (y : ℕ). is (y, y)) (integer_at s) s x k (integer_is s p i x k h) (x, x) refl)

-- the ends of `range_at`
module _ {r : Taken (ℕ × ℕ)} (s : List ℕ) (p : pair_at_seen s r ≡ pair_at s) (i : PairAtIn (length s) r) where
  -- nothing was read
  pub span_refused : (f : Fault) → r ≡ Err f → Refused (range_at s) (length s) f
  unfolding range_at
  span_refused f h = sift_refused apart (pair_at s) (length s) f (record { told = rw h at p; inside = rw h at i })

  module _ {o : Option Row} (a x y k : ℕ) (h : r ≡ Ok ((x, y), k)) (u : o ≡ range_seen a x y) where
    -- min and max
    span_is : Took (pair_at s) s (x, y) k
    span_is = let (l, m) = rw h at i in record { told = rw h at p; some = l; inside = m }

    -- min is not below max
    pub span_none : o ≡ None → Refused (range_at s) (length s) (at 0 refusal.RangeForm)
    unfolding range_at
    span_none z = let e = (pick_not (ltb x y) _ _ _ no_row (sym u ∙ z)).0 in sift_isnt apart (pair_at s) s (x, y) k span_is refusal.RangeForm (rw e refl)

    -- a range
    pub span_took : (w : Row) → o ≡ Some w → Rowed (range_at s) a s w k
    unfolding range_at
    span_took w z =
        let e = pick_is (ltb x y) (Some w) _ None (λ q. no_row (sym q)) (sym u ∙ z) in
        let m = e.1 in
        let g : w ≡ in_halves (listed_row a (x, y)) = cc in
        row_took (range_at s) a s x y k g (sift_took apart (pair_at s) s (x, y) k span_is (x, y) (rw e.0 refl))
