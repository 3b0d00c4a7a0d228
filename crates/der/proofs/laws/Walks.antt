-- A list, both ways, from the two laws of one thing. Theorems. Assumes nothing.
use mathlib.Core.Path.{◌≡◌, refl, sym, ap, ◌∙◌}
use mathlib.Core.List.{List, [], ◌∷◌, ◌++◌, append_assoc, append-nil}
use Prim.Native.Nat.{ℕ, zero, suc, ◌≤◌, ◌<◌}
use native.Mathlib.Omega.{arith}
use lib.ListN.{length, length-append}
use Rattle.number.specs.Octets.{Octets}
use Rattle.der.specs.Walk.{Step, got, no, Done, done, stop, onward, walk, walk_all, all, Run, end, then, noted, noting, dec_all}
use Rattle.der.proofs.Tails.{octets_right}
use Rattle.der.proofs.laws.Heads.{Sized}

-- the laws of one thing
pub record Laws {X S E : Type 0} (step : S → List ℕ → Step X S E) (enc : X → List ℕ) (Good : S → X → S → Type 0) : Type 0 where
  pub reads : (σ : S) (x : X) (σ' : S) (rest : List ℕ) → Good σ x σ' → Sized (enc x) → step σ (enc x ++ rest) ≡ got x σ' rest
  pub wrote : (σ : S) (s : List ℕ) (x : X) (σ' : S) (rest : List ℕ) → Octets s → step σ s ≡ got x σ' rest → (s ≡ enc x ++ rest) × Good σ x σ'
  pub some : (x : X) → 0 < length (enc x)

-- a refusal is no end
no_stop : {S E : Type 0} {e : E} {σ : S} → stop e ≡ done σ → ⊥
no_stop h = let z : ◌≡◌ {A = ℕ} 0 1 = cc in omega arith

module _ {X S E : Type 0} {step : S → List ℕ → Step X S E} {enc : X → List ℕ} {Good : S → X → S → Type 0} (laws : Laws step enc Good) where
  -- one step of a walk
  walk_one : (f : ℕ) (σ : S) (s : List ℕ) → 0 < length s → walk step (suc f) σ s ≡ onward (step σ s) (walk step f)
  unfolding walk
  walk_one f σ [] h = absurd (omega arith)
  walk_one f σ (b ∷ s) h = refl

  -- what was written is walked to its end
  pub walk_reads : (f : ℕ) {σ σ' : S} {xs : List X} → Run Good σ xs σ' → length (all enc xs) ≤ f → Sized (all enc xs) → walk step f σ (all enc xs) ≡ done σ'
  unfolding walk
  walk_reads zero end l z = refl
  walk_reads (suc f) end l z = refl
  walk_reads zero (then {x = x} {xs = xs} g r) l z = absurd (omega (arith, laws.some x, length-append (enc x) (all enc xs)))
  walk_reads (suc f) (then {σ = σ} {σ' = σ'} {x = x} {xs = xs} g r) l z =
      let i = laws.some x in
      let e = length-append (enc x) (all enc xs) in
      walk_one f σ (enc x ++ all enc xs) (omega arith) ∙ rw (laws.reads σ x σ' (all enc xs) g (omega arith)) (walk_reads f r (omega arith) (omega arith))

  -- s was written, and leads from one state to another
  abbrev pub Wrote : S → List ℕ → S → Type 0
  Wrote σ s σ' = (xs : List X) × (s ≡ all enc xs) × Run Good σ xs σ'

  -- nothing is left
  at_end : {σ σ' : S} → ◌≡◌ {A = Done S E} (done σ) (done σ') → Wrote σ [] σ'
  at_end {σ} {σ'} h = let p : σ ≡ σ' = cc in ([], refl, rw (← p) end)

  -- after one step, by what holds of the rest
  after : (σ : S) (s : List ℕ) (σ' : S) (f : ℕ) → Octets s → length s ≤ suc f
      → ((τ : S) (r : List ℕ) → Octets r → length r ≤ f → walk step f τ r ≡ done σ' → Wrote τ r σ')
      → (o : Step X S E) → step σ s ≡ o → onward o (walk step f) ≡ done σ' → Wrote σ s σ'
  after σ s σ' f b l ih (no e) q h = absurd (no_stop h)
  after σ s σ' f b l ih (got x τ rest) q h =
      let (e, g) = laws.wrote σ s x τ rest b q in
      let c : Octets rest = octets_right (enc x) rest (rw e at b) in
      let (xs, d, r) = ih τ rest c (omega (arith, laws.some x, ap length e, length-append (enc x) rest)) h in
      (x ∷ xs, e ∙ ap (λ (u : List ℕ). enc x ++ u) d, then g r)

  -- what was walked to its end was written
  pub walk_wrote : (f : ℕ) (σ : S) (s : List ℕ) (σ' : S) → Octets s → length s ≤ f → walk step f σ s ≡ done σ' → Wrote σ s σ'
  unfolding walk
  walk_wrote zero σ [] σ' b l h = at_end h
  walk_wrote zero σ (x ∷ s) σ' b l h = absurd (omega arith)
  walk_wrote (suc f) σ [] σ' b l h = at_end h
  walk_wrote (suc f) σ (x ∷ s) σ' b l h = after σ (x ∷ s) σ' f b l (λ τ r. walk_wrote f τ r σ') (step σ (x ∷ s)) refl h

  -- both, with no bound on the steps
  pub reads_all : {σ σ' : S} {xs : List X} → Run Good σ xs σ' → Sized (all enc xs) → walk_all step σ (all enc xs) ≡ done σ'
  unfolding walk_all
  reads_all {xs = xs} r z = walk_reads (length (all enc xs)) r (omega arith) z

  -- the second of them
  pub wrote_all : (σ : S) (s : List ℕ) (σ' : S) → Octets s → walk_all step σ s ≡ done σ' → Wrote σ s σ'
  unfolding walk_all
  wrote_all σ s σ' b h = walk_wrote (length s) σ s σ' b (omega arith) h

-- the same with what was read kept
pub record Noted {X S : Type 0} (Good : S → X → S → Type 0) (τ : S × List X) (x : X) (τ' : S × List X) : Type 0 where
  pub good : Good τ.0 x τ'.0
  pub more : τ'.1 ≡ τ.1 ++ (x ∷ [])

-- what was kept
noted_was : {X S E : Type 0} (xs : List X) (o : Step X S E) (x : X) (τ : S × List X) (rest : List ℕ) → noted xs o ≡ got x τ rest → (o ≡ got x τ.0 rest) × (τ.1 ≡ xs ++ (x ∷ []))
noted_was {X} {S} xs (no e) x τ rest h = let z : ◌≡◌ {A = ℕ} 0 1 = cc in absurd (omega arith)
noted_was {X} {S} xs (got y σ r) x τ rest h =
    let p : ◌≡◌ {A = S × List X} (σ, xs ++ (y ∷ [])) τ = cc in
    let q : y ≡ x = cc in
    let u : r ≡ rest = cc in
    (rw (q, u, ap (λ (o : S × List X). o.0) p), rw (← q) (sym (ap (λ (o : S × List X). o.1) p)))

module _ {X S : Type 0} {Good : S → X → S → Type 0} where
  -- a run keeps what it runs through
  run_noted : {σ σ' : S} {xs : List X} (ys : List X) → Run Good σ xs σ' → Run (Noted Good) (σ, ys) xs (σ', ys ++ xs)
  run_noted ys end = rw append-nil end
  run_noted ys (then {x = x} {xs = xs} g r) = then (record { good = g; more = refl }) (rw (append_assoc ys (x ∷ []) xs) at (run_noted (ys ++ (x ∷ [])) r))

  -- and no more
  noted_run : {τ τ' : S × List X} {xs : List X} → Run (Noted Good) τ xs τ' → Run Good τ.0 xs τ'.0 × (τ'.1 ≡ τ.1 ++ xs)
  noted_run {τ} end = (end, sym (append-nil τ.1))
  noted_run {τ} (then {x = x} {xs = xs} g r) = let (p, q) = noted_run r in (then g.good p, q ∙ rw (g.more, append_assoc))

module _ {X S E : Type 0} {step : S → List ℕ → Step X S E} {enc : X → List ℕ} {Good : S → X → S → Type 0} (laws : Laws step enc Good) where
  -- the laws of a step that keeps what it reads
  noting_laws : Laws (noting step) enc (Noted Good)
  noting_laws = record {
    reads = λ τ x τ' rest g z. rw (laws.reads τ.0 x τ'.0 rest g.good z, ← g.more);
    wrote = λ τ s x τ' rest b h.
        let (p, q) = noted_was τ.1 (step τ.0 s) x τ' rest h in
        let (e, g) = laws.wrote τ.0 s x τ'.0 rest b p in
        (e, record { good = g; more = q });
    some = laws.some;
  }

  -- all that was written is read, in order
  pub dec_reads : {σ σ' : S} {xs : List X} → Run Good σ xs σ' → Sized (all enc xs) → dec_all step σ (all enc xs) ≡ done (σ', xs)
  unfolding dec_all
  dec_reads r z = reads_all noting_laws (run_noted [] r) z

  -- all that was read was written, in order
  pub dec_wrote : (σ : S) (s : List ℕ) (σ' : S) (xs : List X) → Octets s → dec_all step σ s ≡ done (σ', xs) → (s ≡ all enc xs) × Run Good σ xs σ'
  unfolding dec_all
  dec_wrote σ s σ' xs b h =
      let (ys, e, r) = wrote_all noting_laws (σ, []) s (σ', xs) b h in
      let (g, q) = noted_run r in
      (rw q e, rw q g)

-- what leads from state to state also leads along in another kind of state
pub run_along : {X S T : Type 0} {Good : S → X → S → Type 0} {Good' : T → X → T → Type 0} (R : S → T → Type 0)
    → ((σ : S) (x : X) (σ' : S) (τ : T) → Good σ x σ' → R σ τ → (τ' : T) × Good' τ x τ' × R σ' τ')
    → {σ σ' : S} {xs : List X} (τ : T) → Run Good σ xs σ' → R σ τ → (τ' : T) × Run Good' τ xs τ' × R σ' τ'
run_along R along τ end r = (τ, end, r)
run_along R along τ (then {σ = σ} {σ' = σ'} {x = x} g h) r =
    let (τ₁, g', r₁) = along σ x σ' τ g r in
    let (τ₂, h', r₂) = run_along R along τ₁ h r₁ in
    (τ₂, then g' h', r₂)
