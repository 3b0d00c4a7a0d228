-- The first at fault is one, and the check names it: the other way round of first_at_fault. Theorems. Assumes nothing.
--     fault_only       a certificate below a line has one fault
--     first_only       a path has one first certificate at fault, with one fault
--     fault_refused    where a well-framed bundle has one, the check refuses with it
use mathlib.Core.Path.{◌≡◌, refl, sym, ap, ◌∙◌}
use mathlib.Core.List.{List, [], ◌∷◌, ◌++◌}
use mathlib.Core.Logic.{◌⊎◌, inl, inr}
use Prim.Native.Nat.{ℕ, ◌≤◌, ◌<◌}
use native.Mathlib.Omega.{arith}
use lib.ListN.{length}
use Rattle.std.specs.Prelude.{Err}
use Rattle.number.proofs.Picks.{below}
use Rattle.table.specs.Sizes.{table_numbers}
use Rattle.table.specs.Rows.{Row}
use Rattle.values.specs.declared.readings.Refused.{Refused}
use Rattle.path.specs.Certificate.{Step}
use Rattle.path.specs.Paths.{Left, leaves, check}
use Rattle.path.specs.Demand.{Certificate, bundle, Framed, Smaller, Missing, NoSpace, Fault, First}
use Rattle.path.proofs.laws.Descents.{Outcome, passing_right, passing_few, no_fault, stop_first}
use Rattle.path.proofs.laws.Path.{outcome, check_is}

-- ONE FAULT

-- the lowest space, and the smallest number, are one
space_only : {c : Certificate} {line : List Certificate} {s t : ℕ} → NoSpace c line s → NoSpace c line t → s ≡ t
space_only {s = s} {t = t} h k = go (below s t) (below t s)
  where
    go : (s < t) ⊎ (t ≤ s) → (t < s) ⊎ (s ≤ t) → s ≡ t
    go (inl l) d = absurd (h.none (k.lowest s l h.inherits))
    go (inr l) (inl d) = absurd (k.none (h.lowest t d k.inherits))
    go (inr l) (inr d) = omega arith

not_smaller : {c : Certificate} {line : List Certificate} {s n t m : ℕ} → Missing c line s n → Missing c line t m → Smaller s n t m → ⊥
not_smaller {s = s} {n = n} h k l = h.free (k.least s n l h.held)

missing_only : {c : Certificate} {line : List Certificate} {s n t m : ℕ} → Missing c line s n → Missing c line t m → (s ≡ t) × (n ≡ m)
missing_only {s = s} {n = n} {t = t} {m = m} h k = go (below s t) (below t s) (below n m) (below m n)
  where
    go : (s < t) ⊎ (t ≤ s) → (t < s) ⊎ (s ≤ t) → (n < m) ⊎ (m ≤ n) → (m < n) ⊎ (n ≤ m) → (s ≡ t) × (n ≡ m)
    go (inl a) b d e = absurd (not_smaller h k (Smaller.by_space a))
    go (inr a) (inl b) d e = absurd (not_smaller k h (Smaller.by_space b))
    go (inr a) (inr b) (inl d) e = absurd (not_smaller h k (Smaller.by_number (omega arith) d))
    go (inr a) (inr b) (inr d) (inl e) = absurd (not_smaller k h (Smaller.by_number (omega arith) e))
    go (inr a) (inr b) (inr d) (inr e) = (omega arith, omega arith)

-- each fault shuts out those before it
pub fault_only : {c : Certificate} {line : List Certificate} {f g : Refused} → Fault c line f → Fault c line g → f ≡ g
fault_only (Fault.no_ip h) (Fault.no_ip k) = refl
fault_only (Fault.no_ip h) (Fault.no_ids n k) = absurd (n h)
fault_only (Fault.no_ip h) (Fault.no_space p k) = absurd (p.ip h)
fault_only (Fault.no_ip h) (Fault.too_many p i k) = absurd (p.ip h)
fault_only (Fault.no_ip h) (Fault.not_held z p i l k) = absurd (p.ip h)
fault_only (Fault.no_ids n h) (Fault.no_ip k) = absurd (n k)
fault_only (Fault.no_ids n h) (Fault.no_ids m k) = refl
fault_only (Fault.no_ids n h) (Fault.no_space p k) = absurd (p.ids h)
fault_only (Fault.no_ids n h) (Fault.too_many p i k) = absurd (p.ids h)
fault_only (Fault.no_ids n h) (Fault.not_held z p i l k) = absurd (p.ids h)
fault_only (Fault.no_space p h) (Fault.no_ip k) = absurd (p.ip k)
fault_only (Fault.no_space p h) (Fault.no_ids n k) = absurd (p.ids k)
fault_only (Fault.no_space p h) (Fault.no_space q k) = rw (space_only h k)
fault_only (Fault.no_space p h) (Fault.too_many q i k) = absurd (h.none (i _ h.inherits))
fault_only (Fault.no_space p h) (Fault.not_held z q i l k) = absurd (h.none (i _ h.inherits))
fault_only (Fault.too_many p i h) (Fault.no_ip k) = absurd (p.ip k)
fault_only (Fault.too_many p i h) (Fault.no_ids n k) = absurd (p.ids k)
fault_only (Fault.too_many p i h) (Fault.no_space q k) = absurd (k.none (i _ k.inherits))
fault_only (Fault.too_many p i h) (Fault.too_many q j k) = refl
fault_only (Fault.too_many p i h) (Fault.not_held z q j l k) = absurd (omega arith)
fault_only (Fault.not_held z p i l h) (Fault.no_ip k) = absurd (p.ip k)
fault_only (Fault.not_held z p i l h) (Fault.no_ids n k) = absurd (p.ids k)
fault_only (Fault.not_held z p i l h) (Fault.no_space q k) = absurd (k.none (i _ k.inherits))
fault_only (Fault.not_held z p i l h) (Fault.too_many q j k) = absurd (omega arith)
fault_only (Fault.not_held z p i l h) (Fault.not_held y q j m k) = let (d, e) = missing_only h k in rw (d, e)

-- ONE PLACE

-- c after a, and d after b, in one list: the same place, or one of them is before the other
data Places (a : List Certificate) (c : Certificate) (b : List Certificate) (d : Certificate) : Type 0 where
  same : a ≡ b → c ≡ d → Places a c b d
  before : (z : List Certificate) → b ≡ a ++ (c ∷ z) → Places a c b d
  behind : (z : List Certificate) → a ≡ b ++ (d ∷ z) → Places a c b d

places : (a : List Certificate) (c : Certificate) (x b : List Certificate) (d : Certificate) (y : List Certificate) → a ++ (c ∷ x) ≡ b ++ (d ∷ y) → Places a c b d
places [] c x [] d y e = Places.same refl cc
places [] c x (v ∷ b) d y e = Places.before b (let h : v ≡ c = cc in rw h)
places (u ∷ a) c x [] d y e = Places.behind a (let h : u ≡ d = cc in rw h)
places (u ∷ a) c x (v ∷ b) d y e = let rest : a ++ (c ∷ x) ≡ b ++ (d ∷ y) = cc in let h : u ≡ v = cc in go h (places a c x b d y rest)
  where
    go : u ≡ v → Places a c b d → Places (u ∷ a) c (v ∷ b) d
    go h (Places.same p q) = Places.same (rw (h, p)) q
    go h (Places.before z p) = Places.before z (rw (h, p))
    go h (Places.behind z p) = Places.behind z (rw (h, p))

-- A path has one first certificate at fault, with one fault.
pub first_only : {path : List Certificate} {f g : Refused} → First path f → First path g → f ≡ g
first_only {path} {f} {g} h k = go (places h.above h.certificate h.below k.above k.certificate k.below (sym h.is ∙ k.is))
  where
    go : Places h.above h.certificate k.above k.certificate → f ≡ g
    go (Places.same p q) = fault_only (rw (p, q) at h.fault) k.fault
    go (Places.before z p) = absurd (no_fault k.above h.above h.certificate z p k.right k.few h.fault)
    go (Places.behind z p) = absurd (no_fault h.above k.above k.certificate z p h.right h.few k.fault)

-- Where a well-framed bundle has a first certificate at fault, the check refuses with its fault.
pub fault_refused : (path : List Certificate) (first second : List ℕ) → Framed path → table_numbers ≤ length first → table_numbers ≤ length second
    → (f : Refused) → First path f → (check (bundle path) first second).0 ≡ Err f
fault_refused path first second w l m f d = ap (λ (x : Left). x.0) (check_is (bundle path) first second l m) ∙ go (outcome path w)
  where
    go : {o : Step (List Row × ℕ)} → Outcome [] path o → (leaves o first second).0 ≡ Err f
    go (Outcome.passes a) = absurd (no_fault path d.above d.certificate d.below d.is (passing_right path a) (passing_few path a) d.fault)
    go (Outcome.stops {f = g} s) = ap (λ (x : Refused). Err x) (first_only (stop_first path g s) d)
