-- The kinds of the spaces: "The spaces are 1024 to 1280, 2048 to 2304, 4096 and 5120." Assumes nothing.
--     kind_ip, kind_as      which spaces are of which kind, both ways
--     space_above_zero      no space is below 1024
use mathlib.Core.Path.{◌≡◌, refl}
use mathlib.Core.Bool.{Bool, true, false, false≢true}
use mathlib.Core.Logic.{◌⊎◌, inl, inr, ◌↔◌}
use Prim.Native.Nat.{ℕ, ◌≤◌, ◌<◌}
use native.Mathlib.Omega.{arith}
use lib.Dec.{leb, eqb}
use borrow.Author.Tests.{leb-true, eqb-true, le-leb, lt-leb}
use Rattle.number.specs.Tests.{pick}
use Rattle.number.proofs.Picks.{pick_is}
use Rattle.table.specs.Spaces.{ip_kind, as_kind, between, kind_of}

abbrev pub IpSpace : ℕ → Type 0
IpSpace s = ((1024 ≤ s) × (s ≤ 1280)) ⊎ ((2048 ≤ s) × (s ≤ 2304))

abbrev pub AsSpace : ℕ → Type 0
AsSpace s = (s ≡ 4096) ⊎ (s ≡ 5120)

-- the test `between` and what it says
module _ (first last s : ℕ) where
  between_true : between first last s ≡ true → (first ≤ s) × (s ≤ last)
  unfolding between
  between_true e = let (p, q) = pick_is (leb first s) true (leb s last) false false≢true e in (leb-true first s p, leb-true s last q)

  true_between : first ≤ s → s ≤ last → between first last s ≡ true
  unfolding between
  true_between p q = rw (le-leb first s p, le-leb s last q)

  after_between : first ≤ s → last < s → between first last s ≡ false
  unfolding between
  after_between p q = rw (le-leb first s p, lt-leb s last q)

-- every space is of one kind, or of none
data Kinds (s k : ℕ) : Type 0 where
  an_ip : k ≡ ip_kind → IpSpace s → Kinds s k
  an_as : k ≡ as_kind → AsSpace s → Kinds s k
  other : k ≡ 0 → Kinds s k

-- by the tests in their order
kinds : (s : ℕ) → Kinds s (kind_of s)
unfolding kind_of
kinds s = go (between 1024 1280 s) refl (between 2048 2304 s) refl (eqb s 4096) refl (eqb s 5120) refl
  where
    go : (a : Bool) → between 1024 1280 s ≡ a → (b : Bool) → between 2048 2304 s ≡ b → (c : Bool) → eqb s 4096 ≡ c → (d : Bool) → eqb s 5120 ≡ d
        → Kinds s (pick a ip_kind (pick b ip_kind (pick c as_kind (pick d as_kind 0))))
    go true e b f c g d h = an_ip refl (inl (between_true 1024 1280 s e))
    go false e true f c g d h = an_ip refl (inr (between_true 2048 2304 s f))
    go false e false f true g d h = an_as refl (inl (eqb-true s 4096 g))
    go false e false f false g true h = an_as refl (inr (eqb-true s 5120 h))
    go false e false f false g false h = other refl

-- the kind tells the spaces
ip_was : {s k : ℕ} → Kinds s k → k ≡ ip_kind → IpSpace s
ip_was (an_ip e h) q = h
ip_was (an_as e h) q = absurd (omega arith)
ip_was (other e) q = absurd (omega arith)

as_was : {s k : ℕ} → Kinds s k → k ≡ as_kind → AsSpace s
as_was (an_ip e h) q = absurd (omega arith)
as_was (an_as e h) q = h
as_was (other e) q = absurd (omega arith)

-- the spaces tell the kind
is_ip : (s : ℕ) → IpSpace s → kind_of s ≡ ip_kind
unfolding kind_of
is_ip s (inl h) = rw (true_between 1024 1280 s h.0 h.1)
is_ip s (inr h) = rw (after_between 1024 1280 s (omega arith) (omega arith), true_between 2048 2304 s h.0 h.1)

is_as : (s : ℕ) → AsSpace s → kind_of s ≡ as_kind
unfolding kind_of between
is_as s (inl e) = rw e
is_as s (inr e) = rw e

-- THE LAWS
pub kind_ip : (s : ℕ) → kind_of s ≡ ip_kind ↔ IpSpace s
kind_ip s = (ip_was (kinds s), is_ip s)

pub kind_as : (s : ℕ) → kind_of s ≡ as_kind ↔ AsSpace s
kind_as s = (as_was (kinds s), is_as s)

pub space_above_zero : (s : ℕ) → (kind_of s ≡ 0 → ⊥) → 1024 ≤ s
space_above_zero s n = go (kinds s)
  where
    go : Kinds s (kind_of s) → 1024 ≤ s
    go (an_ip e (inl h)) = h.0
    go (an_ip e (inr h)) = omega arith
    go (an_as e (inl h)) = omega arith
    go (an_as e (inr h)) = omega arith
    go (other e) = absurd (n e)
