-- What a `?` hands on. Theorems. Assumes nothing.
--     handed             the refusal that is returned.      no_other      the one that stands for a missing value
--     shifted, kept      what `after` was given.      all_fit      what it asks.      counted_after      what it hands on, with the rows so far
use mathlib.Core.Path.{◌≡◌, refl, sym, ap, ◌∙◌}
use native.Mathlib.Omega.{arith}
use Rattle.std.specs.Prelude.{ℕ, ◌+◌, ◌^◌, ◌<◌, IfErr, Result, Ok, Err, Option, None, IsErrAnd}
use Rattle.std.specs.Option.{ok_or}
use Rattle.std.proofs.lemmas.Result.{err_from_is_err_and}
use Rattle.values.specs.Faults.{Fault, later, Read, read_after}
use Rattle.values.specs.Into.{counted}

pub handed : {T E : Type 0} {r : Result T E} (f : E) → IsErrAnd r (λ g. g ≡ f) → r ≡ Err f
handed {r = r} f h = let p = err_from_is_err_and r h in p.1 ∙ ap Err p.2

pub no_other : {T E : Type 0} {o : Option T} {e r : E} → Err r ≡ ok_or o e → o ≡ None → r ≡ e
no_other {T} {E} {o} {e} {r} p q = let z : ◌≡◌ {A = Result T E} (Err r) (Err e) = rw q at p in cc

-- what was refused before its place was moved on by k octets
pub shifted : {T : Type 0} (k : ℕ) (r : Read T) {f : Fault} → Err f ≡ read_after k r → (e : Fault) × (r ≡ Err e) × (f ≡ later k e)
shifted k (Ok x) p = let z : ◌≡◌ {A = ℕ} 0 1 = cc in absurd (omega arith)
shifted k (Err e) p = (e, refl, cc)

-- and what was read
pub kept : {T : Type 0} (k : ℕ) (r : Read T) {x : T} → Ok x ≡ read_after k r → r ≡ Ok x
kept k (Ok y) p = sym p
kept k (Err e) p = let z : ◌≡◌ {A = ℕ} 0 1 = cc in absurd (omega arith)

-- a place that fits, for whatever refusal there is
pub all_fit : {T : Type 0} (k : ℕ) (r : Read T) → ((f : Fault) → r ≡ Err f → k + f.place < 2 ^ 64) → IfErr r (λ f. k + f.place < 2 ^ 64)
all_fit k (Ok x) h = tt
all_fit k (Err f) h = h f refl

-- the rows so far stay with what is handed on
pub counted_after : (n k : ℕ) (r : Read (Unit {0})) → counted n (read_after k r) ≡ read_after k (counted n r)
counted_after n k (Ok u) = refl
counted_after n k (Err f) = refl
