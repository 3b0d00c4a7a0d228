-- The invariant of a loop that reads a list, once for all such loops. Assumes nothing.
--     Held    from a state, with xs read and a rest left, the definition's answer is o.
--     held_start, held_end, held_exit, held_turn     before the loop, after it, where it stops at a refusal, and after one thing more
use mathlib.Core.Path.{◌≡◌, refl}
use mathlib.Core.List.{List, [], ◌∷◌, ◌++◌}
use Prim.Native.Nat.{ℕ, zero, suc, ◌≤◌, ◌<◌}
use native.Mathlib.Omega.{arith}
use lib.ListN.{length}
use Rattle.der.specs.Walk.{Step, got, no, onward, walk, walk_all, noted, noting, dec_all}
use Rattle.der.specs.Parts.{Contents, is, isnt, gathered, list_of}

-- from the state σ, with xs read and rest left, the answer is o; how many steps are allowed is its own affair
pub record Held {X S E : Type 0} (step : S → List ℕ → Step X S E) (o : Contents (List X) E) (σ : S) (xs : List X) (rest : List ℕ) : Type 0 where
  pub fuel : ℕ
  pub enough : length rest ≤ fuel
  pub same : gathered (walk (noting step) fuel (σ, xs) rest) ≡ o

module _ {X S E : Type 0} {step : S → List ℕ → Step X S E} where
  -- nothing was read yet
  pub held_start : (σ : S) (s : List ℕ) → Held step (list_of step σ s) σ [] s
  unfolding list_of dec_all walk_all
  held_start σ s = record { fuel = length s; enough = omega arith; same = refl }

  module _ {o : Contents (List X) E} {σ : S} {xs : List X} {rest : List ℕ} (v : Held step o σ xs rest) where
    -- nothing is left
    end_by : (f : ℕ) (s : List ℕ) → gathered (walk (noting step) f (σ, xs) s) ≡ o → length s ≤ 0 → is xs ≡ o
    unfolding walk
    end_by zero s e h = e
    end_by (suc f) [] e h = e
    end_by (suc f) (b ∷ s) e h = absurd (omega arith)

    -- so xs is the answer
    pub held_end : length rest ≤ 0 → is xs ≡ o
    held_end h = end_by v.fuel rest v.same h

    -- something is left, so there is a step
    more_by : (f : ℕ) (s : List ℕ) → length s ≤ f → gathered (walk (noting step) f (σ, xs) s) ≡ o → 0 < length s
        → (g : ℕ) × (f ≡ suc g) × (gathered (onward (noted xs (step σ s)) (walk (noting step) g)) ≡ o)
    unfolding walk
    more_by f [] l e h = absurd (omega arith)
    more_by zero (b ∷ s) l e h = absurd (omega arith)
    more_by (suc f) (b ∷ s) l e h = (f, refl, e)

    -- it refuses, and so the answer does
    pub held_exit : (e : E) → 0 < length rest → step σ rest ≡ no e → isnt e ≡ o
    held_exit e h p =
        let (g, q, r) = more_by v.fuel rest v.enough v.same h in
        rw p at r

    -- it goes on
    pub held_turn : (x : X) (σ' : S) (rest' : List ℕ) → 0 < length rest → step σ rest ≡ got x σ' rest' → length rest' < length rest → Held step o σ' (xs ++ (x ∷ [])) rest'
    held_turn x σ' rest' h p l =
        let (g, q, r) = more_by v.fuel rest v.enough v.same h in
        let m = v.enough in
        record { fuel = g; enough = omega arith; same = rw p at r }
