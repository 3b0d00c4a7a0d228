-- Which spaces rows have, before inheritance and after it, and which of them the issuer's rows lack. Assumes nothing.
--     covers                        the spaces that tidy rows inherit: none is lacking, or the lowest that is
--     resolved_was, resolved_has    after inheritance the rows are in no other spaces, and in all of them where none is lacking
use mathlib.Core.Path.{◌≡◌, refl, sym, ◌∙◌}
use mathlib.Core.List.{List, [], ◌∷◌, ◌++◌}
use mathlib.Core.Bool.{Bool}
use mathlib.Core.Logic.{◌⊎◌, inl, inr}
use Prim.Native.Nat.{ℕ, ◌<◌}
use native.Mathlib.Omega.{arith}
use Rattle.number.specs.Tests.{pick}
use Rattle.table.specs.Rows.{Row}
use Rattle.table.specs.Holdings.{Inherits}
use Rattle.table.proofs.From.{Upto, earlier_space, same_space, From, a_list, an_inherit, from_inherit, start}
use Rattle.path.specs.Inherit.{in_space, resolved, Spaces, all, lacks, or_lacks, lacking}
use Rattle.path.specs.Demand.{HasSpace}
use Rattle.path.proofs.laws.Inherits.{Tested, tested}

-- WHICH ARE LACKING

-- the rows of one space: none, or the rows have it
data Found (s : ℕ) (rows : List Row) : List Row → Type 0 where
  nowhere : (HasSpace s rows → ⊥) → Found s rows []
  somewhere : {r : Row} {rs : List Row} → HasSpace s rows → Found s rows (r ∷ rs)

found : (s : ℕ) (rows : List Row) → Found s rows (in_space s rows)
found s [] = nowhere (λ h. elim h [ ])
found s (r ∷ rs) = go (tested r.space s) (found s rs)
  where
    without : (r.space ≡ s → ⊥) → (HasSpace s rs → ⊥) → HasSpace s (r ∷ rs) → ⊥
    without n m (HasSpace.here e) = n e
    without n m (HasSpace.there h) = m h

    on : {k : List Row} → (r.space ≡ s → ⊥) → Found s rs k → Found s (r ∷ rs) k
    on n (nowhere m) = nowhere (without n m)
    on n (somewhere h) = somewhere (HasSpace.there h)

    go : {b : Bool} → Tested r.space s b → Found s rs (in_space s rs) → Found s (r ∷ rs) (pick b (r ∷ in_space s rs) (in_space s rs))
    go (Tested.is e) k = somewhere (HasSpace.here e)
    go (Tested.is_not n) k = on n k

-- which spaces are lacking
pub data Covers (issuer rows : List Row) : Spaces → Type 0 where
  every : ((s : ℕ) → Inherits s rows → HasSpace s issuer) → Covers issuer rows all
  lowest : {s : ℕ} → Inherits s rows → (HasSpace s issuer → ⊥) → ((t : ℕ) → t < s → Inherits t rows → HasSpace t issuer) → Covers issuer rows (lacks s)

-- with a row before the others whose space, if it inherits, is not lacking
covers_more : {issuer rs : List Row} {o : Spaces} (r : Row) → (r.inherit ≡ 1 → HasSpace r.space issuer) → Covers issuer rs o → Covers issuer (r ∷ rs) o
covers_more {issuer} {rs} r f (every g) = every go
  where
    go : (s : ℕ) → Inherits s (r ∷ rs) → HasSpace s issuer
    go s (Inherits.here e q) = rw q at (f e)
    go s (Inherits.there h) = g s h
covers_more {issuer} {rs} r f (lowest {s = s} i n g) = lowest (Inherits.there i) n go
  where
    go : (t : ℕ) → t < s → Inherits t (r ∷ rs) → HasSpace t issuer
    go t l (Inherits.here e q) = rw q at (f e)
    go t l (Inherits.there h) = g t l h

-- a row that inherits, before the others
covers_first : {issuer rs k : List Row} {p b : ℕ} {o : Spaces} (r : Row) → r.inherit ≡ 1 → From p b (r ∷ rs) → Found r.space issuer k → Covers issuer rs o → Covers issuer (r ∷ rs) (or_lacks r.space k o)
covers_first {issuer} {rs} r e f (nowhere n) v = lowest (Inherits.here e refl) n (λ t l h. absurd (before t l (from_inherit (start f) h)))
  where
    before : (t : ℕ) → t < r.space → Upto r.space r.low t 0 → ⊥
    before t l (earlier_space u) = omega arith
    before t l (same_space u k) = omega arith
covers_first r e f (somewhere h) v = covers_more r (λ _. h) v

pub covers : {p b : ℕ} (issuer rows : List Row) → From p b rows → Covers issuer rows (lacking issuer rows)
covers issuer [] f = every (λ s h. elim h [ ])
covers {p} {b} issuer (r ∷ rs) f = go (tested r.inherit 1) (found r.space issuer) (others f (λ q d k. covers issuer rs k))
  where
    others : From p b (r ∷ rs) → ((q d : ℕ) → From q d rs → Covers issuer rs (lacking issuer rs)) → Covers issuer rs (lacking issuer rs)
    others (a_list e u l k) g = g _ _ k
    others (an_inherit e l h u k) g = g _ _ k

    go : {t : Bool} → Tested r.inherit 1 t → Found r.space issuer (in_space r.space issuer) → Covers issuer rs (lacking issuer rs)
        → Covers issuer (r ∷ rs) (pick t (or_lacks r.space (in_space r.space issuer) (lacking issuer rs)) (lacking issuer rs))
    go (Tested.is e) h v = covers_first r e f h v
    go (Tested.is_not n) h v = covers_more r (λ e. absurd (n e)) v

-- AFTER INHERITANCE

-- rows after others have their spaces
space_right : {s : ℕ} {rest : List Row} (rs : List Row) → HasSpace s rest → HasSpace s (rs ++ rest)
space_right [] h = h
space_right (r ∷ rs) h = HasSpace.there (space_right rs h)

-- the rows of a space are in it, and the others in theirs
space_into : {s t : ℕ} {rs : List Row} (rest : List Row) → t ≡ s → HasSpace s rs → HasSpace s (in_space t rs ++ rest)
space_into {s} {t} rest q (HasSpace.here {r = r} {rs = rs} e) = go (tested r.space t)
  where
    go : {b : Bool} → Tested r.space t b → HasSpace s (pick b (r ∷ in_space t rs) (in_space t rs) ++ rest)
    go (Tested.is d) = HasSpace.here e
    go (Tested.is_not n) = absurd (n (e ∙ sym q))
space_into {s} {t} rest q (HasSpace.there {r = r} {rs = rs} h) = go (tested r.space t) (space_into rest q h)
  where
    go : {b : Bool} → Tested r.space t b → HasSpace s (in_space t rs ++ rest) → HasSpace s (pick b (r ∷ in_space t rs) (in_space t rs) ++ rest)
    go (Tested.is d) k = HasSpace.there k
    go (Tested.is_not n) k = k

space_out : {s t : ℕ} {rest : List Row} (rs : List Row) → HasSpace s (in_space t rs ++ rest) → (t ≡ s) ⊎ HasSpace s rest
space_out [] h = inr h
space_out {s} {t} {rest} (r ∷ rs) h = go (tested r.space t) h (λ k. space_out rs k)
  where
    go : {b : Bool} → Tested r.space t b → HasSpace s (pick b (r ∷ in_space t rs) (in_space t rs) ++ rest) → (HasSpace s (in_space t rs ++ rest) → (t ≡ s) ⊎ HasSpace s rest) → (t ≡ s) ⊎ HasSpace s rest
    go (Tested.is d) (HasSpace.here e) f = inl (sym d ∙ e)
    go (Tested.is d) (HasSpace.there k) f = f k
    go (Tested.is_not n) k f = f k

-- the rows after inheritance are in no other spaces,
pub resolved_was : {s : ℕ} (issuer rows : List Row) → HasSpace s (resolved issuer rows) → HasSpace s rows
resolved_was issuer [] h = h
resolved_was {s} issuer (r ∷ rs) h = go (tested r.inherit 1) h (λ k. resolved_was issuer rs k)
  where
    up : (r.space ≡ s) ⊎ HasSpace s (resolved issuer rs) → (HasSpace s (resolved issuer rs) → HasSpace s rs) → HasSpace s (r ∷ rs)
    up (inl e) f = HasSpace.here e
    up (inr k) f = HasSpace.there (f k)

    go : {b : Bool} → Tested r.inherit 1 b → HasSpace s (pick b (in_space r.space issuer ++ resolved issuer rs) (r ∷ resolved issuer rs))
        → (HasSpace s (resolved issuer rs) → HasSpace s rs) → HasSpace s (r ∷ rs)
    go (Tested.is e) k f = up (space_out issuer k) f
    go (Tested.is_not n) (HasSpace.here e) f = HasSpace.here e
    go (Tested.is_not n) (HasSpace.there k) f = HasSpace.there (f k)

-- and in all of them, where no space is lacking
pub resolved_has : {s : ℕ} {issuer rows : List Row} → ((t : ℕ) → Inherits t rows → HasSpace t issuer) → HasSpace s rows → HasSpace s (resolved issuer rows)
resolved_has {s} {issuer} f (HasSpace.here {r = r} {rs = rs} e) = go (tested r.inherit 1)
  where
    go : {b : Bool} → Tested r.inherit 1 b → HasSpace s (pick b (in_space r.space issuer ++ resolved issuer rs) (r ∷ resolved issuer rs))
    go (Tested.is i) = space_into (resolved issuer rs) e (f s (Inherits.here i e))
    go (Tested.is_not n) = HasSpace.here e
resolved_has {s} {issuer} f (HasSpace.there {r = r} {rs = rs} h) = go (tested r.inherit 1) (resolved_has (λ t i. f t (Inherits.there i)) h)
  where
    go : {b : Bool} → Tested r.inherit 1 b → HasSpace s (resolved issuer rs) → HasSpace s (pick b (in_space r.space issuer ++ resolved issuer rs) (r ∷ resolved issuer rs))
    go (Tested.is i) k = space_right (in_space r.space issuer) k
    go (Tested.is_not n) k = HasSpace.there k
