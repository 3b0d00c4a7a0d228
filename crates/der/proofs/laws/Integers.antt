-- The contents of an INTEGER, both ways. Theorems. Assumes nothing.
--     integer_read, read_integer       what `integer_octets` writes is read, and what is read was written by `integer_octets`
--     integer_size_lem     how many octets it takes.      integer_most     they are at most five
--     Takes        what "minimal" says of a number: it has one size (`takes_once`), and that is `integer_size` (`size_takes`)
use mathlib.Core.Path.{◌≡◌, refl, sym, ap, ◌∙◌}
use mathlib.Core.List.{List, [], ◌∷◌}
use mathlib.Core.Bool.{Bool, true, false}
use mathlib.Core.Logic.{◌⊎◌, inl, inr}
use Prim.Native.Nat.{ℕ, zero, suc, ◌+◌, ◌*◌, ◌/◌, ◌%◌, ◌^◌, ◌≤◌, ◌<◌}
use native.Mathlib.Omega.{arith}
use native.Mathlib.Nat.{lt_of_lt_of_le, mod-lt, mod-eq_of_lt, mul-le-mul_right, le-div_iff_mul-le}
use lib.Arith.{digits_lt}
use lib.Dec.{ltb, leb, eqb}
use lib.ListN.{length}
use lib.Pow.{pow_pos, pow-add, pow_mono, split, shr_lt}
use borrow.Author.Tests.{le-ltb, lt-ltb, lt-leb, ne_eqb, ltb-true, ltb-false, leb-false, eqb-true, eqb-false}
use Rattle.number.specs.Tests.{pick}
use Rattle.number.specs.Octets.{Octets, value, octets}
use Rattle.number.proofs.Picks.{below}
use Rattle.number.proofs.laws.Octets.{octets-length, octets_value, octets_tail, value_below, value_octets_lem}
use Rattle.der.specs.Integer.{padded, integer_of, integer_size, integer_octets}
use Rattle.der.specs.declared.integers.BadInteger.TheVariants.{Empty, Negative, Padded, TooLarge}
use Rattle.std.specs.Prelude.{Ok, Err}

-- v takes m octets after its first: with fewer the first bit would be set, and with these it is not
pub record Takes (v m : ℕ) : Type 0 where
  pub above : v < 2 ^ (7 + 8 * m)
  pub least : (j : ℕ) → m ≡ suc j → 2 ^ (7 + 8 * j) ≤ v

-- a number takes no more octets than it takes
takes_most : (v m n : ℕ) → Takes v m → Takes v n → m ≤ n
takes_most v zero n p q = omega arith
takes_most v (suc j) n p q = go (below n (suc j))
  where
    go : (n < suc j) ⊎ (suc j ≤ n) → suc j ≤ n
    go (inl h) = absurd (omega (arith, p.least j refl, q.above, pow_mono {i = 7 + 8 * n} {j = 7 + 8 * j} (omega arith)))
    go (inr h) = h

-- so it takes one number of them
pub takes_once : (v m n : ℕ) → Takes v m → Takes v n → m ≡ n
takes_once v m n p q = omega (arith, takes_most v m n p q, takes_most v n m q p)

-- and that is `integer_size`
pub size_takes : (x : ℕ) → x ≤ 4294967295 → (m : ℕ) × (integer_size x ≡ suc m) × (m ≤ 4) × Takes x m
unfolding integer_size
size_takes x s = go (ltb x (2 ^ 7)) (ltb x (2 ^ 15)) (ltb x (2 ^ 23)) (ltb x (2 ^ 31)) refl refl refl refl
  where
    -- by its least and its greatest
    takes : (m : ℕ) → x < 2 ^ (7 + 8 * suc m) → 2 ^ (7 + 8 * m) ≤ x → Takes x (suc m)
    takes m a l = record { above = a; least = λ j e. let i : m ≡ j = omega arith in rw (← i) l }

    go : (a b c d : Bool) → ltb x (2 ^ 7) ≡ a → ltb x (2 ^ 15) ≡ b → ltb x (2 ^ 23) ≡ c → ltb x (2 ^ 31) ≡ d
        → (m : ℕ) × (pick a 1 (pick b 2 (pick c 3 (pick d 4 5))) ≡ suc m) × (m ≤ 4) × Takes x m
    go true b c d e f g h = (0, refl, omega arith, record { above = ltb-true x (2 ^ 7) e; least = λ j i. absurd (omega arith) })
    go false true c d e f g h = (1, refl, omega arith, takes 0 (ltb-true x (2 ^ 15) f) (ltb-false x (2 ^ 7) e))
    go false false true d e f g h = (2, refl, omega arith, takes 1 (ltb-true x (2 ^ 23) g) (ltb-false x (2 ^ 15) f))
    go false false false true e f g h = (3, refl, omega arith, takes 2 (ltb-true x (2 ^ 31) h) (ltb-false x (2 ^ 23) g))
    go false false false false e f g h = (4, refl, omega arith, takes 3 (omega arith) (ltb-false x (2 ^ 31) h))

-- octets whose first is below 128, and cannot be left out
least_of : (a : ℕ) (s : List ℕ) → padded (a ∷ s) ≡ false → (j : ℕ) → length s ≡ suc j → 2 ^ (7 + 8 * j) ≤ value (a ∷ s)
unfolding padded
least_of a [] h j e = absurd (omega arith)
least_of a (b ∷ s) h j e =
    let i : j ≡ length s = omega arith in
    rw (i, pow-add 2 7 (8 * length s)) (go (eqb a 0) refl (rw (lt-ltb 1 (suc (suc (length s))) (omega arith)) at h))
  where
    go : (t : Bool) → eqb a 0 ≡ t → pick t (ltb b 128) false ≡ false → 2 ^ 7 * 2 ^ (8 * length s) ≤ value (a ∷ b ∷ s)
    go true e h = omega (arith, mul-le-mul_right {m = 128} {n = b} (2 ^ (8 * length s)) (ltb-false b 128 h))
    go false e h =
        let z : a ≡ 0 → ⊥ = eqb-false a 0 e in
        let f : 8 * suc (length s) ≡ 8 + 8 * length s = omega arith in
        let p : 2 ^ (8 * suc (length s)) ≡ 2 ^ 8 * 2 ^ (8 * length s) = rw f (pow-add 2 8 (8 * length s)) in
        omega (arith, mul-le-mul_right {m = 1} {n = a} (2 ^ (8 * suc (length s))) (omega arith))

-- so they are as many as their number takes
contents_take : (a : ℕ) (s : List ℕ) → Octets (a ∷ s) → a < 128 → padded (a ∷ s) ≡ false → Takes (value (a ∷ s)) (length s)
contents_take a s b h p = record {
  above = rw (pow-add 2 7 (8 * length s)) (digits_lt h (value_below s (octets_tail a s b)));
  least = least_of a s p;
}

-- and the other way: of the octets of a number the first cannot be left out
not_padded : (x m : ℕ) → Takes x m → padded (octets (suc m) x) ≡ false
unfolding padded
not_padded x zero k = refl
not_padded x (suc j) k = rw (lt-ltb 1 (suc (suc (length (octets j (x % 2 ^ (8 * suc j) % 2 ^ (8 * j)))))) (omega arith)) (go (eqb (x / 2 ^ (8 * suc j)) 0) refl)
  where
    go : (t : Bool) → eqb (x / 2 ^ (8 * suc j)) 0 ≡ t → pick t (ltb (x % 2 ^ (8 * suc j) / 2 ^ (8 * j)) 128) false ≡ false
    go true e =
        let z : x / 2 ^ (8 * suc j) ≡ 0 = eqb-true (x / 2 ^ (8 * suc j)) 0 e in
        let l : x < 2 ^ (8 * suc j) = omega (arith, rw z at (split x (8 * suc j)), mod-lt x (pow_pos (8 * suc j))) in
        let g : 128 * 2 ^ (8 * j) ≤ x = rw (pow-add 2 7 (8 * j)) at (k.least j refl) in
        rw (mod-eq_of_lt l) (le-ltb (x / 2 ^ (8 * j)) 128 ((le-div_iff_mul-le (pow_pos (8 * j))).1 g))
    go false e = refl

-- and they are taken
taken : (x m : ℕ) → x ≤ 4294967295 → m ≤ 4 → Takes x m → integer_of (octets (suc m) x) ≡ Ok x
unfolding integer_of
taken x m s f k =
    let l : length (octets (suc m) x) ≡ suc m = octets-length (suc m) x in
    let v : value (octets (suc m) x) ≡ x = octets_value (suc m) x (lt_of_lt_of_le k.above (pow_mono {i = 7 + 8 * m} {j = 8 * suc m} (omega arith))) in
    rw (v, ne_eqb (length (octets (suc m) x)) 0 (omega arith), lt-leb 128 (x / 2 ^ (8 * m)) (shr_lt 7 (8 * m) k.above), not_padded x m k, le-ltb 5 (length (octets (suc m) x)) (omega arith), le-ltb 4294967295 x s)

-- what was written is read
pub integer_read : (x : ℕ) → x ≤ 4294967295 → integer_of (integer_octets x) ≡ Ok x
unfolding integer_octets
integer_read x s = let (m, e, f, k) = size_takes x s in rw e (taken x m s f k)

-- the tests that a number came through
pub record Read (a : ℕ) (s : List ℕ) (x : ℕ) : Type 0 where
  pub positive : a < 128
  pub minimal : padded (a ∷ s) ≡ false
  pub small : value (a ∷ s) ≤ 4294967295
  pub is : value (a ∷ s) ≡ x

-- each was passed
read_tests : (a : ℕ) (s : List ℕ) (x : ℕ) → integer_of (a ∷ s) ≡ Ok x → Read a s x
unfolding integer_of
read_tests a s x h = go (eqb (suc (length s)) 0) (leb 128 a) (padded (a ∷ s)) (ltb 5 (suc (length s))) (ltb 4294967295 (value (a ∷ s))) refl refl refl h
  where
    go : (p q r t u : Bool) → leb 128 a ≡ q → padded (a ∷ s) ≡ r → ltb 4294967295 (value (a ∷ s)) ≡ u
        → pick p (Err Empty) (pick q (Err Negative) (pick r (Err Padded) (pick t (Err TooLarge) (pick u (Err TooLarge) (Ok (value (a ∷ s))))))) ≡ Ok x → Read a s x
    go true q r t u e f g h = let z : ◌≡◌ {A = ℕ} 0 1 = cc in absurd (omega arith)
    go false true r t u e f g h = let z : ◌≡◌ {A = ℕ} 0 1 = cc in absurd (omega arith)
    go false false true t u e f g h = let z : ◌≡◌ {A = ℕ} 0 1 = cc in absurd (omega arith)
    go false false false true u e f g h = let z : ◌≡◌ {A = ℕ} 0 1 = cc in absurd (omega arith)
    go false false false false true e f g h = let z : ◌≡◌ {A = ℕ} 0 1 = cc in absurd (omega arith)
    go false false false false false e f g h = record { positive = leb-false 128 a e; minimal = f; small = ltb-false 4294967295 (value (a ∷ s)) g; is = cc }

-- what is read was written
pub read_integer : (c : List ℕ) (x : ℕ) → Octets c → integer_of c ≡ Ok x → (c ≡ integer_octets x) × (x ≤ 4294967295)
unfolding integer_of integer_octets
read_integer [] x b h = let z : ◌≡◌ {A = ℕ} 0 1 = cc in absurd (omega arith)
read_integer (a ∷ s) x b h =
    let r = read_tests a s x h in
    let (m, e, f, k) = size_takes (value (a ∷ s)) r.small in
    let i : integer_size (value (a ∷ s)) ≡ suc (length s) = e ∙ ap suc (takes_once (value (a ∷ s)) m (length s) k (contents_take a s b r.positive r.minimal)) in
    rw (← r.is) (sym (value_octets_lem (a ∷ s) b) ∙ ap (λ (n : ℕ). octets n (value (a ∷ s))) (sym i), r.small)

-- how many octets it takes
pub integer_size_lem : (x : ℕ) → length (integer_octets x) ≡ integer_size x
unfolding integer_octets
integer_size_lem x = octets-length (integer_size x) x

-- and that is at most five
pub integer_most : (x : ℕ) → integer_size x ≤ 5
unfolding integer_size
integer_most x = go (ltb x (2 ^ 7)) (ltb x (2 ^ 15)) (ltb x (2 ^ 23)) (ltb x (2 ^ 31))
  where
    go : (a b c d : Bool) → pick a 1 (pick b 2 (pick c 3 (pick d 4 5))) ≤ 5
    go true b c d = omega arith
    go false true c d = omega arith
    go false false true d = omega arith
    go false false false true = omega arith
    go false false false false = omega arith
