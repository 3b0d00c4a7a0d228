-- Two parts that one reader reads, and nothing after them: what `pair_of` and `pair_at` answer, by the answers that the reader may give.
use Rattle.std.specs.Prelude.{Ok, Err, ℕ, ◌+◌, ◌-◌, ◌≡◌, List, length, take, drop, ltb}
use Rattle.number.specs.Tests.{pick}
use Rattle.number.specs.declared.refusal.Refusal.TheVariants as refusal
use Rattle.der.specs.Tags.{SEQUENCE}
use Rattle.der.specs.Opening.{Opening, opening_of}
use Rattle.values.specs.Faults.{at, later, Read, Taken}
use Rattle.values.specs.Seen.{Within}

-- x, the first k of n octets, and what was answered of the rest
abbrev pub closed : {X : Type 0} → ℕ → X → ℕ → Taken X → Read (X × X)
closed n x k (Ok (y, j)) = pick (ltb (k + j) n) (Err (at (k + j) refusal.OctetsLeft)) (Ok (x, y))
closed n x k (Err f) = Err (later k f)

-- an element of e octets, by what was answered of its contents, which k octets precede
abbrev pub ended : {X : Type 0} → ℕ → ℕ → Read X → Taken X
ended k e (Ok x) = Ok (x, e)
ended k e (Err f) = Err (later k f)

-- One s r: the reader may answer r of s
module _ {X : Type 0} (One : List ℕ → Taken X → Type 0) where
  -- each of its answers is within the octets that it was given
  abbrev pub Bounded : Type 0
  Bounded = (s : List ℕ) (r : Taken X) → One s r → Within (length s) r

  -- the second part follows the first
  abbrev pub Followed : List ℕ → Taken X → Read (X × X) → Type 0
  Followed s (Ok (x, k)) r = (b : Taken X) × One (drop k s) b × (r ≡ closed (length s) x k b)
  Followed s (Err f) r = r ≡ Err f

  -- the contents of a range
  abbrev pub PairOf : List ℕ → Read (X × X) → Type 0
  PairOf s r = (a : Taken X) × One s a × Followed s a r

  -- an element that holds them, by its opening
  abbrev pub Opened : List ℕ → Opening → Taken (X × X) → Type 0
  Opened s (Ok (k, e)) r = (b : Read (X × X)) × PairOf (take (e - k) (drop k s)) b × (r ≡ ended k e b)
  Opened s (Err f) r = r ≡ Err (at 0 f)

  -- the range that s begins with
  pub record PairAt (s : List ℕ) (r : Taken (X × X)) : Type 0 where
    pub opened : Opened s (opening_of SEQUENCE s) r
