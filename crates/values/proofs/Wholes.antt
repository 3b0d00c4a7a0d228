-- A part, then another, and then nothing: `two` and `only`, by what each part was. Theorems. Assumes nothing.
--     before       how many octets a part has, by the rest.       only_bad, only_over, only_all       nothing after it
--     two_first, two_second, two_both     one, then another
use mathlib.Core.Path.{◌≡◌, refl}
use mathlib.Core.List.{List, [], ◌∷◌}
use Prim.Native.Nat.{ℕ, ◌+◌, ◌-◌, ◌≤◌, ◌<◌}
use native.Mathlib.Omega.{arith}
use lib.ListN.{length, drop, length-drop}
use lib.Seq.{drop-drop}
use Rattle.number.specs.declared.refusal.Refusal.TheVariants as refusal
use Rattle.der.specs.Parts.{is, isnt, Part, part, nopart, two, ended, only}
use Rattle.values.specs.Faults.{Fault, at, later, moved_part}

-- what is left where there is something, and where there is nothing
module _ {X E : Type 0} (over : ℕ → E) (n : ℕ) (x : X) where
  ended_over : (l : List ℕ) → 0 < length l → isnt (over (n - length l)) ≡ ended over n (part x l)
  ended_over [] h = absurd (omega arith)
  ended_over (b ∷ l) h = refl

  ended_is : (l : List ℕ) → length l ≡ 0 → is x ≡ ended over n (part x l)
  ended_is [] h = refl
  ended_is (b ∷ l) h = absurd (omega arith)

-- how many octets come before the rest
pub before : (k : ℕ) (s : List ℕ) → k ≤ length s → length s - length (drop k s) ≡ k
before k s l = rw length-drop (omega arith)

-- octets after what may stand alone
abbrev pub over : ℕ → Fault
over j = at j refusal.OctetsLeft

module _ {X : Type 0} (dec : List ℕ → Part X Fault) (s : List ℕ) where
  -- no part
  pub only_bad : (f : Fault) → nopart f ≡ dec s → isnt f ≡ only over dec s
  unfolding only
  only_bad f p = rw (← p) refl

  module _ (x : X) (k : ℕ) (p : part x (drop k s) ≡ dec s) where
    -- a part, and octets after it
    pub only_over : k < length s → isnt (over k) ≡ only over dec s
    unfolding only
    only_over h = rw (← p) (rw (before k s (omega arith)) at (ended_over over (length s) x (drop k s) (rw length-drop (omega arith))))

    -- a part alone
    pub only_all : length s ≤ k → is x ≡ only over dec s
    unfolding only
    only_all h = rw (← p) (ended_is over (length s) x (drop k s) (rw length-drop (omega arith)))

-- how the second is read may turn on the first; its place counts from the start of both
abbrev pub paired : {X Y : Type 0} → (List ℕ → Part X Fault) → (X → List ℕ → Part Y Fault) → List ℕ → Part (X × Y) Fault
paired dec next = two dec (λ j x rest. moved_part j (next x rest))

module _ {X Y : Type 0} (dec : List ℕ → Part X Fault) (next : X → List ℕ → Part Y Fault) (s : List ℕ) where
  -- the first part is refused
  pub two_first : (f : Fault) → nopart f ≡ dec s → nopart f ≡ paired dec next s
  unfolding two
  two_first f p = rw (← p) refl

  module _ (x : X) (k : ℕ) (p : part x (drop k s) ≡ dec s) (l : k ≤ length s) where
    -- the second is refused
    pub two_second : (f : Fault) → nopart f ≡ next x (drop k s) → nopart (later k f) ≡ paired dec next s
    unfolding two
    two_second f q = rw (← p, before k s l, ← q) refl

    -- both are read
    pub two_both : (y : Y) (j : ℕ) → part y (drop j (drop k s)) ≡ next x (drop k s) → part (x, y) (drop (k + j) s) ≡ paired dec next s
    unfolding two
    two_both y j q = rw (← p, before k s l, ← q, drop-drop) refl
