-- The laws of a reader made of smaller ones, from theirs. Theorems. Assumes nothing.
--     tagged_laws   two_laws   only_laws   sifted_laws   admitted_laws   list_laws
use mathlib.Core.Path.{◌≡◌, refl, sym, ap, ◌∙◌}
use mathlib.Core.List.{List, [], ◌∷◌, ◌++◌, append_assoc, append-nil}
use mathlib.Core.Logic.{◌↔◌}
use Prim.Native.Nat.{ℕ, ◌+◌, ◌-◌, ◌<◌}
use native.Mathlib.Omega.{arith}
use lib.ListN.{length, get_or, length-append}
use lib.Dec.{eqb}
use borrow.Author.Tests.{eq-eqb, ne_eqb, eqb-true}
use Rattle.number.specs.Octets.{Octets}
use Rattle.number.specs.declared.refusal.Refusal.{Refusal}
use Rattle.number.specs.declared.refusal.Refusal.TheVariants as refusal
use Rattle.number.proofs.Picks.{pick_not, pick_is}
use Rattle.number.proofs.laws.Octets.{octets_left}
use Rattle.der.specs.Head.{Head, found, fault, head, element, head_size}
use Rattle.der.specs.Walk.{Step, got, no, Done, done, stop, all, Run, dec_all}
use Rattle.der.specs.Parts.{Contents, is, isnt, Part, part, nopart, closed, opened, tagged, second, first, two, ended, only, sifted, arrived, entered, admitted, gathered, list_of}
use Rattle.der.proofs.Tails.{octets_right}
use Rattle.der.proofs.laws.Heads.{Sized, head_element, element_head, element_size_lem, element_longer, octets_element, tag_first}
use Rattle.der.proofs.laws.Walks.{Laws, dec_reads, dec_wrote}

-- the laws of a reader of contents: what `enc` writes is read, and what is read was written by `enc`
pub record Inner {X E : Type 0} (inner : List ℕ → Contents X E) (enc : X → List ℕ) (Ok : X → Type 0) : Type 0 where
  pub reads : (x : X) → Ok x → Sized (enc x) → inner (enc x) ≡ is x
  pub wrote : (c : List ℕ) (x : X) → Octets c → inner c ≡ is x → (c ≡ enc x) × Ok x

-- the laws of a reader of a part
pub record Outer {X E : Type 0} (dec : List ℕ → Part X E) (enc : X → List ℕ) (Ok : X → Type 0) : Type 0 where
  pub reads : (x : X) (rest : List ℕ) → Ok x → Sized (enc x) → dec (enc x ++ rest) ≡ part x rest
  pub wrote : (s : List ℕ) (x : X) (rest : List ℕ) → Octets s → dec s ≡ part x rest → (s ≡ enc x ++ rest) × Ok x

-- a refusal is no part
pub no_part : {X E : Type 0} {e : E} {x : X} {rest : List ℕ} → nopart e ≡ part x rest → ⊥
no_part h = let z : ◌≡◌ {A = ℕ} 0 1 = cc in omega arith

-- nor contents
pub no_is : {X E : Type 0} {e : E} {x : X} → isnt e ≡ is x → ⊥
no_is h = let z : ◌≡◌ {A = ℕ} 0 1 = cc in omega arith

-- nor a step
pub no_got : {X S E : Type 0} {e : E} {x : X} {σ : S} {rest : List ℕ} → no e ≡ got x σ rest → ⊥
no_got h = let z : ◌≡◌ {A = ℕ} 0 1 = cc in omega arith

-- the contents of a part that was read
pub closed_was : {X E : Type 0} (o : Contents X E) (x : X) (r rest : List ℕ) → closed o r ≡ part x rest → (o ≡ is x) × (r ≡ rest)
closed_was (is y) x r rest h = (cc, cc)
closed_was (isnt e) x r rest h = absurd (no_part h)

-- how long the head of an element is
abbrev pub head_of : ℕ → List ℕ → ℕ
head_of t c = length (element t c) - length c

-- as many octets as the code counts
pub head_of_lem : (t : ℕ) (c : List ℕ) → head_of t c ≡ head_size (length c)
head_of_lem t c = omega (arith, element_size_lem t c)

-- the octets before the contents
before_size : (t : ℕ) (c rest : List ℕ) → length (element t c ++ rest) - (length c + length rest) ≡ head_of t c
before_size t c rest = omega (arith, length-append (element t c) rest, element_longer t c)

-- the octets before the rest
after_size : (s rest : List ℕ) → length (s ++ rest) - length rest ≡ length s
after_size s rest = omega (arith, length-append s rest)

-- an element: the laws of the contents may be asked at any place
module _ {X E : Type 0} {inner : ℕ → List ℕ → Contents X E} {enc : X → List ℕ} {Ok : ℕ → X → Type 0} (bad : Refusal → E) (t : ℕ) (laws : (k : ℕ) → Inner (inner k) enc (Ok k)) where
  -- what was read by its head
  opened_was : (s : List ℕ) (o : Head) (x : X) (rest : List ℕ) → Octets s → get_or s 0 0 ≡ t → head s ≡ o → opened bad inner (length s) o ≡ part x rest → (s ≡ element t (enc x) ++ rest) × Ok (head_of t (enc x)) x
  opened_was s fault x rest b a q h = absurd (no_part h)
  opened_was s (found c r) x rest b a q h =
      let (i, j) = closed_was (inner (length s - (length c + length r)) c) x r rest h in
      let w : s ≡ element t c ++ r = rw a at (element_head s c r b q) in
      let (e, o) = (laws (length s - (length c + length r))).wrote c x (octets_element t c (octets_left (element t c) r (rw w at b))) i in
      let v : s ≡ element t (enc x) ++ r = w ∙ rw e in
      let n : length s - (length c + length r) ≡ head_of t (enc x) = rw (v, e) (before_size t (enc x) r) in
      (v ∙ rw j, rw n at o)

  -- and by its tag
  tagged_was : (s : List ℕ) (x : X) (rest : List ℕ) → Octets s → tagged bad t inner s ≡ part x rest → (s ≡ element t (enc x) ++ rest) × Ok (head_of t (enc x)) x
  unfolding tagged
  tagged_was s x rest b h =
      let k = pick_not (eqb (length s) 0) (part x rest) (nopart (bad refusal.Element)) _ no_part h in
      let l = pick_is (eqb (get_or s 0 0) t) (part x rest) _ (nopart (bad refusal.Tag)) no_part k.1 in
      opened_was s (head s) x rest b (eqb-true (get_or s 0 0) t l.0) refl l.1

  -- both ways
  pub tagged_laws : Outer (tagged bad t inner) (λ x. element t (enc x)) (λ x. Ok (head_of t (enc x)) x)
  unfolding tagged
  tagged_laws = record {
    reads = λ x rest o z.
        let y : Sized (enc x) = omega (arith, element_longer t (enc x)) in
        let m : length (element t (enc x) ++ rest) ≡ 0 → ⊥ = (λ e. omega (arith, element_longer t (enc x), length-append (element t (enc x)) rest)) in
        rw (ne_eqb (length (element t (enc x) ++ rest)) 0 m, tag_first t (enc x) rest, eq-eqb t t refl, head_element t (enc x) rest y, before_size t (enc x) rest, (laws (head_of t (enc x))).reads x o y);
    wrote = tagged_was;
  }

-- one and then another
module _ {X Y E : Type 0} {decX : List ℕ → Part X E} {encX : X → List ℕ} {OkX : X → Type 0} {decY : ℕ → X → List ℕ → Part Y E} {encY : X → Y → List ℕ} {OkY : ℕ → X → Y → Type 0}
    (lawsX : Outer decX encX OkX) (lawsY : (k : ℕ) (x : X) → OkX x → Outer (decY k x) (encY x) (OkY k x)) where
  -- what was read second
  second_was : (x : X) (o : Part Y E) (p : X × Y) (rest : List ℕ) → second x o ≡ part p rest → (x ≡ p.0) × (o ≡ part p.1 rest)
  second_was x (nopart e) p rest h = absurd (no_part h)
  second_was x (part y r) p rest h =
      let e : ◌≡◌ {A = X × Y} (x, y) p = cc in
      let f : r ≡ rest = cc in
      (ap (λ (q : X × Y). q.0) e, rw (f, ap (λ (q : X × Y). q.1) e))

  -- what is allowed of both
  abbrev Ok : X × Y → Type 0
  Ok p = OkX p.0 × OkY (length (encX p.0)) p.0 p.1

  -- what was read first
  first_was : (s : List ℕ) (o : Part X E) (p : X × Y) (rest : List ℕ) → Octets s → decX s ≡ o → first (length s) o decY ≡ part p rest
      → (s ≡ (encX p.0 ++ encY p.0 p.1) ++ rest) × Ok p
  first_was s (nopart e) p rest b q h = absurd (no_part h)
  first_was s (part x r) p rest b q h =
      let (e, f) = second_was x (decY (length s - length r) x r) p rest h in
      let (g, o) = lawsX.wrote s p.0 r b (rw e at q) in
      let n : length s - length r ≡ length (encX p.0) = rw g (after_size (encX p.0) r) in
      let (i, j) = (lawsY (length (encX p.0)) p.0 o).wrote r p.1 rest (octets_right (encX p.0) r (rw g at b)) (rw (e, n) at f) in
      (g ∙ rw (i, append_assoc), (o, j))

  -- both ways
  pub two_laws : Outer (two decX decY) (λ p. encX p.0 ++ encY p.0 p.1) Ok
  unfolding two
  two_laws = record {
    reads = λ p rest o z.
        let l = length-append (encX p.0) (encY p.0 p.1) in
        rw (
          append_assoc (encX p.0) (encY p.0 p.1) rest,
          lawsX.reads p.0 (encY p.0 p.1 ++ rest) o.0 (omega arith),
          after_size (encX p.0) (encY p.0 p.1 ++ rest),
          (lawsY (length (encX p.0)) p.0 o.0).reads p.1 rest o.1 (omega arith),
        );
    wrote = λ s p rest b h. first_was s (decX s) p rest b refl h;
  }

-- nothing after it
module _ {X E : Type 0} {dec : List ℕ → Part X E} {enc : X → List ℕ} {Ok : X → Type 0} (over : ℕ → E) (laws : Outer dec enc Ok) where
  -- what was read alone
  ended_was : (n : ℕ) (o : Part X E) (x : X) → ended over n o ≡ is x → o ≡ part x []
  ended_was n (part y []) x h = cc
  ended_was n (part y (b ∷ r)) x h = absurd (no_is h)
  ended_was n (nopart e) x h = absurd (no_is h)

  -- both ways
  pub only_laws : Inner (only over dec) enc Ok
  unfolding only
  only_laws = record {
    reads = λ x o z. let e : dec (enc x) ≡ part x [] = ap dec (sym (append-nil (enc x))) ∙ laws.reads x [] o z in rw e;
    wrote = λ c x b h. let (e, o) = laws.wrote c x [] b (ended_was (length c) (dec c) x h) in (e ∙ append-nil (enc x), o);
  }

-- what one thing is, seen as another: f there, g back
pub record Sieve {X Y E : Type 0} (f : X → Contents Y E) (g : Y → X) (Ok : X → Type 0) (Ok' : Y → Type 0) : Type 0 where
  pub there : (y : Y) → Ok' y → (f (g y) ≡ is y) × Ok (g y)
  pub back : (x : X) (y : Y) → Ok x → f x ≡ is y → (x ≡ g y) × Ok' y

module _ {X Y E : Type 0} {f : X → Contents Y E} {g : Y → X} {dec : List ℕ → Part X E} {enc : X → List ℕ} {Ok : X → Type 0} {Ok' : Y → Type 0} (laws : Outer dec enc Ok) (sieve : Sieve f g Ok Ok') where
  -- what was let through
  sifted_was : (s : List ℕ) (o : Part X E) (y : Y) (rest : List ℕ) → Octets s → dec s ≡ o → sifted f o ≡ part y rest → (s ≡ enc (g y) ++ rest) × Ok' y
  sifted_was s (nopart e) y rest b q h = absurd (no_part h)
  sifted_was s (part x r) y rest b q h =
      let (i, j) = closed_was (f x) y r rest h in
      let (e, o) = laws.wrote s x r b q in
      let (u, v) = sieve.back x y o i in
      (e ∙ rw (u, j), v)

  -- both ways
  pub sifted_laws : Outer (λ s. sifted f (dec s)) (λ y. enc (g y)) Ok'
  sifted_laws = record {
    reads = λ y rest o z. let (e, q) = sieve.there y o in rw (laws.reads (g y) rest q z, e);
    wrote = λ s y rest b h. sifted_was s (dec s) y rest b refl h;
  }

-- the same, said otherwise
pub outer_as : {X E : Type 0} {dec : List ℕ → Part X E} {enc : X → List ℕ} {Ok Ok' : X → Type 0} → Outer dec enc Ok → ((x : X) → Ok x ↔ Ok' x) → Outer dec enc Ok'
outer_as laws f = record {
  reads = λ x rest o z. laws.reads x rest ((f x).1 o) z;
  wrote = λ s x rest b h. let (e, o) = laws.wrote s x rest b h in (e, (f x).0 o);
}

-- the same, under another name
pub map_was : {X Y E : Type 0} (f : X → Y) (o : Part X E) (y : Y) (rest : List ℕ) → sifted (λ x. is (f x)) o ≡ part y rest → (x : X) × (o ≡ part x rest) × (y ≡ f x)
map_was f (nopart e) y rest h = absurd (no_part h)
map_was f (part x r) y rest h = (x, cc, cc)

-- a state
arrived_was : {X S E : Type 0} (x : X) (o : Contents S E) (r : List ℕ) (y : X) (σ' : S) (rest : List ℕ) → arrived x o r ≡ got y σ' rest → (x ≡ y) × (o ≡ is σ') × (r ≡ rest)
arrived_was x (isnt e) r y σ' rest h = absurd (no_got h)
arrived_was x (is τ) r y σ' rest h = (cc, cc, cc)

-- x leads from one state to the next
pub record Admits {X S E : Type 0} (enc : X → List ℕ) (Ok : S → X → Type 0) (admit : S → X → ℕ → Contents S E) (σ : S) (x : X) (σ' : S) : Type 0 where
  pub ok : Ok σ x
  pub next : admit σ x (length (enc x)) ≡ is σ'

module _ {X S E : Type 0} {dec : S → List ℕ → Part X E} {enc : X → List ℕ} {Ok : S → X → Type 0} (admit : S → X → ℕ → Contents S E) (laws : (σ : S) → Outer (dec σ) enc (Ok σ)) (some : (x : X) → 0 < length (enc x)) where
  -- what was admitted
  entered_was : (σ : S) (s : List ℕ) (o : Part X E) (x : X) (σ' : S) (rest : List ℕ) → Octets s → dec σ s ≡ o → entered (admit σ) (length s) o ≡ got x σ' rest → (s ≡ enc x ++ rest) × Admits enc Ok admit σ x σ'
  entered_was σ s (nopart e) x σ' rest b q h = absurd (no_got h)
  entered_was σ s (part y r) x σ' rest b q h =
      let (i, j, k) = arrived_was y (admit σ y (length s - length r)) r x σ' rest h in
      let (e, o) = (laws σ).wrote s y r b q in
      let n : length s - length r ≡ length (enc y) = rw e (after_size (enc y) r) in
      rw (← i, ← k) (e, record { ok = o; next = rw n at j })

  -- both ways
  pub admitted_laws : Laws (admitted dec admit) enc (Admits enc Ok admit)
  unfolding admitted
  admitted_laws = record {
    reads = λ σ x σ' rest g z. rw ((laws σ).reads x rest g.ok z, after_size (enc x) rest, g.next);
    wrote = λ σ s x σ' rest b h. entered_was σ s (dec σ s) x σ' rest b refl h;
    some = some;
  }

-- a list, by the laws of one thing
module _ {X S E : Type 0} {step : S → List ℕ → Step X S E} {enc : X → List ℕ} {Good : S → X → S → Type 0} (laws : Laws step enc Good) (σ : S) where
  -- what was gathered
  gathered_was : (o : Done (S × List X) E) (xs : List X) → gathered o ≡ is xs → (σ' : S) × (o ≡ done (σ', xs))
  gathered_was (stop e) xs h = absurd (no_is h)
  gathered_was (done d) xs h = let p : d.1 ≡ xs = cc in (d.0, rw (← p))

  -- both ways
  pub list_laws : Inner (list_of step σ) (all enc) (λ xs. (σ' : S) × Run Good σ xs σ')
  unfolding list_of
  list_laws = record {
    reads = λ xs o z. rw (dec_reads laws o.1 z);
    wrote = λ c xs b h. let (σ', p) = gathered_was (dec_all step σ c) xs h in let (e, r) = dec_wrote laws σ c σ' xs b p in (e, (σ', r));
  }
