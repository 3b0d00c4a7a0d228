-- Readers made of smaller ones, by what the code says of each part. Theorems. Assumes nothing.
--     Refused, Took, Isnt      what a reader answers: of the part that s begins with, and of contents. refused, took      the same as a contract has it
--     clauses     two facts, as the two clauses of a contract
--     no_tag, tag_order, tag_inside, tag_place     no octets have a tag; where the contents of an element lie
--     tag_refused, tag_isnt, tag_took      an element by its tag, at each end of its reader
--     join_first, join_second, join_over, join_both    one part, then another, then nothing
--     sift_refused, sift_isnt, sift_took       what was read, seen as something else
use mathlib.Core.Path.{◌≡◌, refl, sym, ap, ◌∙◌}
use mathlib.Core.List.{List, [], ◌∷◌}
use Prim.Native.Nat.{ℕ, ◌+◌, ◌-◌, ◌≤◌, ◌<◌}
use native.Mathlib.Omega.{arith}
use lib.ListN.{length, get_or, take, drop, length-take, length-drop}
use Rattle.number.specs.declared.refusal.Refusal.{Refusal}
use Rattle.number.specs.declared.refusal.Refusal.TheVariants as refusal
use Rattle.number.proofs.Picks.{rest_of}
use Rattle.der.specs.Opening.{opening_of}
use Rattle.der.specs.Parts.{Contents, is, isnt, Part, part, nopart, closed, tagged, only, sifted}
use Rattle.der.proofs.Tagged.{tagged_bad, tagged_is}
use Rattle.der.proofs.laws.Heads.{opens}
use Rattle.values.specs.Faults.{Fault, at, later}
use Rattle.values.proofs.Wholes.{over, only_bad, only_over, only_all, paired, two_first, two_second, two_both}
use Rattle.der.specs.Opening.{Opening}
use Rattle.std.specs.Prelude.{Ok, Err}

-- the part o that n octets begin with is refused
pub record Refused {X : Type 0} (o : Part X Fault) (n : ℕ) (f : Fault) : Type 0 where
  pub told : nopart f ≡ o
  pub inside : f.place ≤ n

-- the part o that s begins with is x, in the first k octets
pub record Took {X : Type 0} (o : Part X Fault) (s : List ℕ) (x : X) (k : ℕ) : Type 0 where
  pub told : part x (drop k s) ≡ o
  pub some : 0 < k
  pub inside : k ≤ length s

-- contents o of n octets are refused
pub record Isnt {X : Type 0} (o : Contents X Fault) (n : ℕ) (f : Fault) : Type 0 where
  pub told : isnt f ≡ o
  pub inside : f.place ≤ n

-- two facts as the clauses of a contract
pub clauses : {A B C : Type 0} → (A → B → C) → A × B → C
clauses said p = said p.0 p.1

-- as a contract has them
pub refused : {X : Type 0} {o : Part X Fault} {n : ℕ} {f : Fault} → Refused o n f → (nopart f ≡ o) × (f.place ≤ n)
refused r = (r.told, r.inside)

pub took : {X : Type 0} {o : Part X Fault} {s : List ℕ} {x : X} {k : ℕ} → Took o s x k → (part x (drop k s) ≡ o) × ((0 < k) × (k ≤ length s))
took t = (t.told, (t.some, t.inside))

-- nothing begins with no tag
pub no_tag : (s : List ℕ) (t : ℕ) → 0 < t → length s ≤ 0 → get_or s 0 0 ≡ t → ⊥
no_tag [] t h l e = omega arith
no_tag (b ∷ s) t h l e = omega arith

-- an element with the tag t: the code's opening
module _ {r : Opening} (t : ℕ) (s : List ℕ) (p : r ≡ opening_of t s) where
  -- refused at its head
  pub tag_refused : {X : Type 0} (inner : ℕ → List ℕ → Contents X Fault) (f : Refusal) → r ≡ Err f → Refused (tagged (at 0) t inner s) (length s) (at 0 f)
  tag_refused inner f q = record { told = sym (tagged_bad (at 0) t inner s f (sym p ∙ q)); inside = omega arith }

  module _ (k e : ℕ) (q : r ≡ Ok (k, e)) where
    -- its contents start before they end
    pub tag_order : k ≤ e
    tag_order = (opens t s k e p q).order

    -- and end within s
    pub tag_inside : e ≤ length s
    tag_inside = (opens t s k e p q).inside

    -- a place in the contents is one in s
    pub tag_place : (j : ℕ) → j ≤ length (take (e - k) (drop k s)) → k + j ≤ length s
    tag_place j h = omega (arith, tag_order, tag_inside, simp (length-take, length-drop) at h)

    module _ {X : Type 0} (inner : ℕ → List ℕ → Contents X Fault) where
      -- refused by its contents, at a place in s
      pub tag_isnt : (f : Fault) → inner k (take (e - k) (drop k s)) ≡ isnt f → f.place ≤ length s → Refused (tagged (at 0) t inner s) (length s) f
      tag_isnt f h l = record { told = sym (tagged_is (at 0) t inner s k e (sym p ∙ q) ∙ ap (λ (o : Contents X Fault). closed o (drop e s)) h); inside = l }

      -- read
      pub tag_took : (x : X) → inner k (take (e - k) (drop k s)) ≡ is x → Took (tagged (at 0) t inner s) s x e
      tag_took x h =
          record {
            told = sym (tagged_is (at 0) t inner s k e (sym p ∙ q) ∙ ap (λ (o : Contents X Fault). closed o (drop e s)) h);
            some = omega (arith, (opens t s k e p q).start, tag_order);
            inside = tag_inside;
          }

-- one part, then another, then nothing
abbrev pub joined : {X Y : Type 0} → (List ℕ → Part X Fault) → (X → List ℕ → Part Y Fault) → List ℕ → Contents (X × Y) Fault
joined dec next = only over (paired dec next)

module _ {X Y : Type 0} (dec : List ℕ → Part X Fault) (next : X → List ℕ → Part Y Fault) (s : List ℕ) where
  -- the first part is refused
  pub join_first : (f : Fault) → Refused (dec s) (length s) f → Isnt (joined dec next s) (length s) f
  join_first f r = record { told = only_bad (paired dec next) s f (two_first dec next s f r.told); inside = r.inside }

  module _ (x : X) (k : ℕ) (t : Took (dec s) s x k) where
    -- the second part is refused: it is read in `&s[k..]`
    pub join_second : (f : Fault) → Refused (next x (take (length s - k) (drop k s))) (length (take (length s - k) (drop k s))) f → Isnt (joined dec next s) (length s) (later k f)
    join_second f h =
        let r = rw rest_of at h in
        record {
          told = only_bad (paired dec next) s (later k f) (two_second dec next s x k t.told t.inside f r.told);
          inside = omega (arith, t.inside, r.inside, length-drop k s);
        }

    module _ (y : Y) (j : ℕ) (h : Took (next x (take (length s - k) (drop k s))) (take (length s - k) (drop k s)) y j) where
      both : part (x, y) (drop (k + j) s) ≡ paired dec next s
      both = let u = rw rest_of at h in two_both dec next s x k t.told t.inside y j u.told

      -- octets are left
      pub join_over : j < length (take (length s - k) (drop k s)) → Isnt (joined dec next s) (length s) (at (k + j) refusal.OctetsLeft)
      join_over g =
          let i : j < length (drop k s) = rw rest_of at g in
          let l : k + j < length s = omega (arith, length-drop k s) in
          record { told = only_over (paired dec next) s (x, y) (k + j) both l; inside = omega arith }

      -- both, and nothing after them
      pub join_both : length (take (length s - k) (drop k s)) ≤ j → is (x, y) ≡ joined dec next s
      join_both g =
          let i : length (drop k s) ≤ j = rw rest_of at g in
          only_all (paired dec next) s (x, y) (k + j) both (omega (arith, length-drop k s))

-- what was read, seen as something else
module _ {X Y : Type 0} (f : X → Contents Y Fault) (o : Part X Fault) where
  -- nothing was read
  pub sift_refused : (n : ℕ) (r : Fault) → Refused o n r → Refused (sifted f o) n r
  sift_refused n r p = record { told = rw (← p.told) refl; inside = p.inside }

  module _ (s : List ℕ) (x : X) (k : ℕ) (t : Took o s x k) where
    -- it is refused
    pub sift_isnt : (r : Refusal) → f x ≡ isnt (at 0 r) → Refused (sifted f o) (length s) (at 0 r)
    sift_isnt r h = record { told = rw (← t.told, h) refl; inside = omega arith }

    -- or taken
    pub sift_took : (y : Y) → f x ≡ is y → Took (sifted f o) s y k
    sift_took y h = record { told = rw (← t.told, h) refl; some = t.some; inside = t.inside }
