-- A place that is moved on takes nothing from the laws of a reader: only refusals have places. Theorems. Assumes nothing.
--     moved_inner, moved_outer     the laws of a reader k octets further on
--     inner_as, inner_written      the same laws, said otherwise
use mathlib.Core.Path.{◌≡◌, ◌∙◌}
use mathlib.Core.List.{List}
use mathlib.Core.Logic.{◌↔◌}
use Prim.Native.Nat.{ℕ}
use Rattle.der.specs.Parts.{Contents, is, isnt, Part, part, nopart}
use Rattle.der.proofs.laws.Parts.{Inner, Outer, no_is, no_part}
use Rattle.values.specs.Faults.{Fault, moved, moved_part}

-- what was read is what was read before it was moved
pub moved_was : {X : Type 0} (k : ℕ) (o : Contents X Fault) (x : X) → moved k o ≡ is x → o ≡ is x
moved_was k (is y) x h = h
moved_was k (isnt f) x h = absurd (no_is h)

-- and so of a part
moved_part_was : {X : Type 0} (k : ℕ) (o : Part X Fault) (x : X) (rest : List ℕ) → moved_part k o ≡ part x rest → o ≡ part x rest
moved_part_was k (part y r) x rest h = h
moved_part_was k (nopart f) x rest h = absurd (no_part h)

-- THE LAWS OF A READER k OCTETS FURTHER ON, AND THE SAME LAWS SAID OTHERWISE
module _ {X : Type 0} {enc : X → List ℕ} {Ok : X → Type 0} where
  -- of contents
  pub moved_inner : {inner : List ℕ → Contents X Fault} (k : ℕ) → Inner inner enc Ok → Inner (λ c. moved k (inner c)) enc Ok
  moved_inner {inner} k laws = record {
    reads = λ x o z. rw (laws.reads x o z);
    wrote = λ c x b h. laws.wrote c x b (moved_was k (inner c) x h);
  }

  -- of a part
  pub moved_outer : {dec : List ℕ → Part X Fault} (k : ℕ) → Outer dec enc Ok → Outer (λ s. moved_part k (dec s)) enc Ok
  moved_outer {dec} k laws = record {
    reads = λ x rest o z. rw (laws.reads x rest o z);
    wrote = λ s x rest b h. laws.wrote s x rest b (moved_part_was k (dec s) x rest h);
  }

  -- with other words for what may be read
  pub inner_as : {inner : List ℕ → Contents X Fault} {Ok' : X → Type 0} → Inner inner enc Ok → ((x : X) → Ok x ↔ Ok' x) → Inner inner enc Ok'
  inner_as laws f = record {
    reads = λ x o z. laws.reads x ((f x).1 o) z;
    wrote = λ c x b h. let (e, o) = laws.wrote c x b h in (e, (f x).0 o);
  }

  -- with other words for what is written
  pub inner_written : {inner : List ℕ → Contents X Fault} {enc' : X → List ℕ} → Inner inner enc Ok → ((x : X) → enc x ≡ enc' x) → Inner inner enc' Ok
  inner_written laws f = record {
    reads = λ x o z. rw (← f x) (laws.reads x o (rw (f x) z));
    wrote = λ c x b h. let (e, o) = laws.wrote c x b h in (e ∙ f x, o);
  }
