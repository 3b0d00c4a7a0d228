-- What the walk decides, what it reports and what it costs. Assumes nothing.
--     sound        covered: whatever own holds, the issuer holds
--     smallest     missing: the number reported is the smallest, space first, that own holds and the issuer does not
--     complete     whatever own holds, the issuer holds: covered
--     pairs_few    the pairs are at most the two row counts added
use mathlib.Core.Path.{◌≡◌, refl}
use mathlib.Core.List.{List, ◌∷◌}
use Prim.Native.Nat.{ℕ, ◌+◌, ◌≤◌}
use native.Mathlib.Nat.{le_refl}
use native.Mathlib.Omega.{arith}
use lib.ListN.{length}
use Rattle.table.specs.Rows.{Row}
use Rattle.table.specs.Tables.{Tidy, Each}
use Rattle.table.specs.Holdings.{Has, Holds}
use Rattle.table.proofs.laws.Only.{none_held}
use Rattle.table.proofs.From.{Before, same_space, earlier_space, on, back, From, a_list, an_inherit, tidy_from, from, start}
use Rattle.path.specs.Walk.{Result, covered, missing, walk}
use Rattle.path.proofs.laws.Steps.{Steps, done, used_up, inside, skip, ahead, beyond, steps}

-- no row inherits: the rows of a certificate after inheritance
abbrev pub AllListed : List Row → Type 0
AllListed = Each (λ r. r.inherit ≡ 0)

-- whatever own holds, the issuer holds
abbrev pub Contained : List Row → List Row → Type 0
Contained own issuer = (s n : ℕ) → Holds s n own → Holds s n issuer

-- number n of space s is the smallest, space first, that own holds and the issuer does not
pub record Smallest (own issuer : List Row) (s n : ℕ) : Type 0 where
  pub held : Holds s n own
  pub free : Holds s n issuer → ⊥
  pub least : (t m : ℕ) → Before t m s n → Holds t m own → Holds t m issuer

-- BY CASES ON THE STEPS

-- what the first row has is held
head : {s n : ℕ} {r : Row} {rs : List Row} → Has r s n → Holds s n (r ∷ rs)
head h = Holds.here h

-- the number of pairs
few : {own issuer : List Row} {r : Result} {k : ℕ} → Steps own issuer r k → k ≤ length own + length issuer
few done = omega arith
few used_up = omega arith
few (inside w k) = omega (arith, few k)
few (skip b k) = omega (arith, few k)
few (ahead b) = omega arith
few (beyond b) = omega arith

-- covered
contained : {own issuer : List Row} {k : ℕ} → Steps own issuer covered k → AllListed issuer → Contained own issuer
contained done a s n h = absurd (none_held h)
contained (inside w k) (Each.more e a) s n (Holds.here h) = head (omega arith)
contained (inside w k) a s n (Holds.there h) = contained k a s n h
contained (skip b k) (Each.more e a) s n h = Holds.there (contained k a s n h)

-- the first of rows from a place, where all list, and the rows after it
record First (r : Row) (rs : List Row) : Type 0 where
  listed : r.inherit ≡ 0
  order : r.low ≤ r.high
  others : AllListed rs
  after : From r.space (r.high + 2) rs

first : {s a : ℕ} {r : Row} {rs : List Row} → AllListed (r ∷ rs) → From s a (r ∷ rs) → First r rs
first (Each.more e l) (a_list i u h f) = record { listed = e; order = h; others = l; after = f }
first (Each.more e l) (an_inherit i p q u f) = absurd (omega arith)

-- missing: held by own,
held : {own issuer : List Row} {s n k s' a : ℕ} → Steps own issuer (missing s n) k → AllListed own → From s' a own → Holds s n own
held used_up l t = let f = first l t in head (omega arith)
held (inside w k) l t = let f = first l t in Holds.there (held k f.others f.after)
held (skip b k) l t = held k l t
held (ahead b) l t = let f = first l t in head (omega arith)
held (beyond b) l t = let f = first l t in head (omega arith)

-- not held by the issuer,
free : {own issuer : List Row} {s n k s' a s'' b : ℕ} → Steps own issuer (missing s n) k → AllListed own → From s' a own → AllListed issuer → From s'' b issuer → Holds s n issuer → ⊥
free used_up l t l' t' h = none_held h
free (inside w k) l t l' t' h = let f = first l t in free k f.others f.after l' t' h
free (skip b k) l t l' t' (Holds.here h) = back b (on (from (start t) (held k l t)) h.below (same_space (omega arith) (le_refl _)))
free (skip b k) l t l' t' (Holds.there h) = let f = first l' t' in free k l t f.others f.after h
free (ahead b) l t l' t' h = back b (from (start t') h)
free (beyond b) l t l' t' (Holds.here h) = omega arith
free (beyond b) l t l' t' (Holds.there h) = let f = first l' t' in back (same_space (omega arith) (omega arith)) (from f.after h)

-- and what own holds before it, the issuer holds
least : {own issuer : List Row} {s n k s' a t m : ℕ} → Steps own issuer (missing s n) k → AllListed own → From s' a own → AllListed issuer → Before t m s n → Holds t m own → Holds t m issuer
least used_up l y l' b h = absurd (back b (from (start y) h))
least (inside w k) l y (Each.more e l') b (Holds.here h) = head (omega arith)
least (inside w k) l y l' b (Holds.there h) = let f = first l y in least k f.others f.after l' b h
least (skip c k) l y (Each.more e l') b h = Holds.there (least k l y l' b h)
least (ahead c) l y l' b h = absurd (back b (from (start y) h))
least (beyond c) l y l' (earlier_space p) (Holds.here h) = absurd (omega arith)
least (beyond c) l y (Each.more e l') (same_space p q) (Holds.here h) = head (omega arith)
least (beyond c) l y l' b (Holds.there h) = let f = first l y in absurd (back b (on (same_space refl (le_refl _)) (omega arith) (from f.after h)))

-- THE LAWS

pub sound : (own issuer : List Row) → AllListed issuer → (walk own issuer).result ≡ covered → Contained own issuer
sound own issuer l e = contained (rw e at (steps own issuer)) l

module _ (own issuer : List Row) (t : Tidy own) (t' : Tidy issuer) (l : AllListed own) (l' : AllListed issuer) where
  pub smallest : (s n : ℕ) → (walk own issuer).result ≡ missing s n → Smallest own issuer s n
  smallest s n e =
      let w = rw e at (steps own issuer) in
      let f = tidy_from own t in
      record { held = held w l f; free = free w l f l' (tidy_from issuer t'); least = λ u m b h. least w l f l' b h }

  pub complete : Contained own issuer → (walk own issuer).result ≡ covered
  complete c = go (walk own issuer).result refl
    where
      go : (r : Result) → (walk own issuer).result ≡ r → r ≡ covered
      go covered e = refl
      go (missing s n) e = let m = smallest s n e in absurd (m.free (c s n m.held))

pub pairs_few : (own issuer : List Row) → (walk own issuer).pairs ≤ length own + length issuer
pairs_few own issuer = few (steps own issuer)
