-- No two refusals have one number: the refusal can be had again from its number. None has the number 0, which says that nothing was refused. Theorems. Assumes nothing.
use mathlib.Core.Path.{◌≡◌, refl, sym, ap, ◌∙◌}
use mathlib.Core.List.{List, [], ◌∷◌}
use Prim.Native.Nat.{ℕ, ◌-◌}
use native.Mathlib.Omega.{arith}
use lib.ListN.{get_or}
use lib.Dec.{eqb}
use borrow.Author.Tests.{ne_eqb}
use Rattle.number.specs.Tests.{pick}
use Rattle.number.specs.Refusal.{number_of}
use Rattle.number.specs.declared.refusal.Refusal.{Refusal}
use Rattle.number.specs.declared.refusal.Refusal.TheVariants as r
use Rattle.number.proofs.laws.Papers.{apart}

-- the refusals in the order of their numbers
abbrev pub refusals : List Refusal
refusals =
    r.ValueSize ∷ r.Element ∷ r.Tag ∷ r.Contents ∷ r.OctetsLeft ∷ r.Afi ∷ r.FamilyOrder ∷ r.EmptyList ∷ r.RangeForm ∷ r.ElementOrder
    ∷ r.RowCount ∷ r.CertificateCount ∷ r.IssuerLacks ∷ r.NothingToInherit ∷ r.NotHeld ∷ r.TableShort ∷ r.Mark ∷ r.Framing ∷ r.NotATable ∷ r.OutputShort ∷ []

-- the refusal of a number
abbrev pub refusal_of : ℕ → Refusal
refusal_of n = get_or refusals (n - 1) r.ValueSize

-- from a refusal to its number and back
pub refusal_back : (a : Refusal) → refusal_of (number_of a) ≡ a
refusal_back r.ValueSize = refl
refusal_back r.Element = refl
refusal_back r.Tag = refl
refusal_back r.Contents = refl
refusal_back r.OctetsLeft = refl
refusal_back r.Afi = refl
refusal_back r.FamilyOrder = refl
refusal_back r.EmptyList = refl
refusal_back r.RangeForm = refl
refusal_back r.ElementOrder = refl
refusal_back r.RowCount = refl
refusal_back r.CertificateCount = refl
refusal_back r.IssuerLacks = refl
refusal_back r.NothingToInherit = refl
refusal_back r.NotHeld = refl
refusal_back r.TableShort = refl
refusal_back r.Mark = refl
refusal_back r.Framing = refl
refusal_back r.NotATable = refl
refusal_back r.OutputShort = refl

-- one number, one refusal
pub tells_apart : (a b : Refusal) → number_of a ≡ number_of b → a ≡ b
tells_apart = apart number_of refusal_of refusal_back

-- no refusal has the number 0
pub never_zero : (a : Refusal) → number_of a ≡ 0 → ⊥
never_zero a e = let n = ap number_of (sym (refusal_back a) ∙ ap refusal_of e) in omega arith

-- an answer by its first number: nothing is refused, or a refusal
abbrev pub answered : {A : Type 0} → ℕ → A → (Refusal → A) → A
answered n fine bad = pick (eqb n 0) fine (bad (refusal_of n))

-- a refusal is had again so
pub refused_back : {A : Type 0} (fine : A) (bad : Refusal → A) (r : Refusal) → answered (number_of r) fine bad ≡ bad r
refused_back fine bad r = rw (ne_eqb (number_of r) 0 (never_zero r)) (ap bad (refusal_back r))
