-- Inherit or elements, both ways, by the laws of an element. Theorems. Assumes nothing.
--     rows_less, rows_more      the elements of a list, with the places taken out and put in
--     choice_laws               what `choice_at` reads was written by `choice_octets`, and what that writes is read
--     choice_size               how long it is, and that it has a row
use mathlib.Core.Path.{◌≡◌, refl, sym, ap}
use mathlib.Core.List.{List, [], ◌∷◌, ◌++◌}
use mathlib.Core.Bool.{Bool, true, false}
use mathlib.Core.Logic.{◌↔◌}
use Prim.Native.Nat.{ℕ, suc, ◌+◌, ◌*◌, ◌≤◌, ◌<◌}
use native.Mathlib.Omega.{arith}
use lib.ListN.{length, get_or, length-append}
use lib.Dec.{ltb, leb, eqb}
use borrow.Author.Tests.{le-ltb, lt-leb, ltb-false, leb-false, eqb-true}
use Rattle.number.specs.Tests.{pick}
use Rattle.number.specs.Octets.{Octets}
use Rattle.number.specs.declared.refusal.Refusal.TheVariants as refusal
use Rattle.number.proofs.Picks.{pick_not, pick_is}
use Rattle.table.specs.Sizes.{max_rows}
use Rattle.der.specs.Tags.{NULL, SEQUENCE}
use Rattle.der.specs.Head.{element}
use Rattle.der.specs.Strings.{is_null}
use Rattle.der.specs.Walk.{all, Run, end, then}
use Rattle.der.specs.Parts.{Contents, is, isnt, part, filled}
use Rattle.der.proofs.laws.Heads.{head_few, Sized, element_size_lem, tag_first}
use Rattle.der.proofs.laws.Parts.{Inner, Outer, Admits, no_is, tagged_laws, map_was, list_laws}
use Rattle.values.specs.Faults.{at}
use Rattle.values.specs.Spaces.{space_number}
use Rattle.values.specs.Elements.{Place, admit_row, elements_of}
use Rattle.values.specs.Choices.{Choice, inherit, listed, inherited, list_at, inherit_at, listed_at, choice_at, listed_rows, choice_rows}
use Rattle.values.specs.Encode.{element_octets, choice_octets}
use Rattle.values.specs.declared.elements.Space.{Space}
use Rattle.values.proofs.laws.Statements.{Fits, bits_in}
use Rattle.values.proofs.laws.Families.{Rising, Lists}
use Rattle.values.proofs.laws.Elements.{step_laws, element_size_lem as row_size}
use Rattle.values.proofs.laws.Places.{moved_inner, inner_as}

-- THE ELEMENTS OF A LIST, WITH NO PLACE

-- an element that leads from one place to the next
abbrev Good : Space → Place → ℕ × ℕ → Place → Type 0
Good a = Admits (element_octets a) (λ σ. Fits (bits_in a)) admit_row

-- what was admitted: the tests that it came through
row_was : (σ : Place) (r : ℕ × ℕ) (k : ℕ) (τ : Place) → admit_row σ r k ≡ is τ → (σ.1 ≤ r.0) × (σ.2 < max_rows) × ((σ.0 + k, r.1 + 2, σ.2 + 1) ≡ τ)
unfolding admit_row
row_was σ r k τ h =
    let a = pick_not (ltb r.0 σ.1) (is τ) (isnt (at σ.0 refusal.ElementOrder)) _ no_is h in
    let b = pick_not (leb max_rows σ.2) (is τ) (isnt (at σ.0 refusal.RowCount)) _ no_is a.1 in
    let q = b.1 in
    let e : ◌≡◌ {A = Place} (σ.0 + k, r.1 + 2, σ.2 + 1) τ = cc in
    (ltb-false r.0 σ.1 a.0, leb-false max_rows σ.2 b.0, e)

-- what passes them is admitted
row_is : (σ : Place) (r : ℕ × ℕ) (k : ℕ) → σ.1 ≤ r.0 → σ.2 < max_rows → admit_row σ r k ≡ is (σ.0 + k, r.1 + 2, σ.2 + 1)
unfolding admit_row
row_is σ r k p q = rw (le-ltb r.0 σ.1 p, lt-leb max_rows σ.2 q)

module _ (a : Space) where
  -- the places taken out
  pub rows_less : {σ σ' : Place} {rs : List (ℕ × ℕ)} → Run (Good a) σ rs σ' → Rising (bits_in a) σ.1 rs × (σ.2 ≤ max_rows → σ.2 + length rs ≤ max_rows)
  rows_less end = (tt, λ h. omega arith)
  rows_less (then {σ = σ} {σ' = τ} {x = r} {xs = rs} g t) =
      let (p, q, e) = row_was σ r (length (element_octets a r)) τ g.next in
      let (u, v) = rows_less t in
      let m : σ.2 + 1 ≡ τ.2 = ap (λ (o : Place). o.2) e in
      let l : τ.1 ≡ r.1 + 2 = sym (ap (λ (o : Place). o.1) e) in
      ((g.ok, p, rw l at u), λ h. omega (arith, v (omega arith)))

  -- where there is an element, there was room for it
  rows_room : {σ σ' : Place} {rs : List (ℕ × ℕ)} → Run (Good a) σ rs σ' → 0 < length rs → σ.2 ≤ max_rows
  rows_room end h = absurd (omega arith)
  rows_room (then {σ = σ} {σ' = τ} {x = r} g t) h = let (p, q, e) = row_was σ r (length (element_octets a r)) τ g.next in omega arith

  -- and put in
  pub rows_more : (rs : List (ℕ × ℕ)) (p least n : ℕ) → Rising (bits_in a) least rs → n + length rs ≤ max_rows → (σ' : Place) × Run (Good a) (p, least, n) rs σ'
  rows_more [] p least n h l = ((p, least, n), end)
  rows_more (r ∷ rs) p least n h l =
      let k : ℕ = length (element_octets a r) in
      let (σ, t) = rows_more rs (p + k) (r.1 + 2) (n + 1) h.2 (omega arith) in
      (σ, then (record { ok = h.0; next = row_is (p, least, n) r k h.1 (omega arith) }) t)

-- INHERIT OR ELEMENTS

-- a list that is not empty
module _ {X E : Type 0} (none : E) where
  -- was not empty before
  filled_was : (o : Contents (List X) E) (xs : List X) → filled none o ≡ is xs → (o ≡ is xs) × (0 < length xs)
  filled_was (isnt e) xs h = absurd (no_is h)
  filled_was (is []) xs h = absurd (no_is h)
  filled_was (is (y ∷ ys)) xs h = let p : y ∷ ys ≡ xs = cc in (h, rw (← p) (omega arith))

  -- and stays as it is
  filled_is : (xs : List X) → 0 < length xs → filled none (is xs) ≡ is xs
  filled_is [] h = absurd (omega arith)
  filled_is (x ∷ xs) h = refl

  -- the laws of a list that may not be empty
  filled_inner : {inner : List ℕ → Contents (List X) E} {enc : List X → List ℕ} {Ok : List X → Type 0} → Inner inner enc Ok → Inner (λ c. filled none (inner c)) enc (λ xs. (0 < length xs) × Ok xs)
  filled_inner {inner} laws = record {
    reads = λ xs o z. rw (laws.reads xs o.1 z) (filled_is xs o.0);
    wrote = λ c xs b h. let (e, l) = filled_was (inner c) xs h in let (q, o) = laws.wrote c xs b e in (q, (l, o));
  }

-- as many rows as elements
pub listed-length : (a : ℕ) (rs : List (ℕ × ℕ)) → length (listed_rows a rs) ≡ length rs
listed-length a [] = refl
listed-length a (r ∷ rs) = ap suc (listed-length a rs)

-- what may be chosen in the list a, after n rows
abbrev pub Chosen : Space → ℕ → Choice → Type 0
Chosen a n c = Lists (bits_in a) c × (n + length (choice_rows (space_number a) c) ≤ max_rows)

-- no octets, and a row
inherit_inner : (n : ℕ) → Inner (inherited n) (λ c. []) (λ c. (c ≡ inherit) × (n < max_rows))
unfolding inherited is_null
inherit_inner n = record { reads = λ c o z. rw (lt-leb max_rows n o.1, o.0); wrote = wrote }
  where
    wrote : (c : List ℕ) (x : Choice) → Octets c → inherited n c ≡ is x → (c ≡ []) × ((x ≡ inherit) × (n < max_rows))
    wrote (y ∷ c) x b h = let k = pick_is (eqb (suc (length c)) 0) (is x) _ (isnt (at 0 refusal.Contents)) no_is h in absurd (omega (arith, eqb-true (suc (length c)) 0 k.0))
    wrote [] x b h =
        let k = pick_not (leb max_rows n) (is x) (isnt (at 0 refusal.RowCount)) (is inherit) no_is h in
        let q = k.1 in
        (refl, (cc, leb-false max_rows n k.0))

-- in its element
inherit_laws : (n : ℕ) → Outer (inherit_at n) (λ c. element NULL []) (λ c. (c ≡ inherit) × (n < max_rows))
unfolding inherit_at
inherit_laws n = tagged_laws (at 0) NULL (λ k. inherit_inner n)

module _ (a : Space) (n : ℕ) where
  -- elements after n rows
  elements_laws : Inner (elements_of a n) (all (element_octets a)) (λ rs. (σ : Place) × Run (Good a) (0, 0, n) rs σ)
  unfolding elements_of
  elements_laws = list_laws (step_laws a) (0, 0, n)

  -- those of a list, with the places taken out
  list_as : (rs : List (ℕ × ℕ)) → ((0 < length rs) × ((σ : Place) × Run (Good a) (0, 0, n) rs σ)) ↔ Chosen a n (listed rs)
  list_as rs = (
    λ h. let (p, q) = rows_less a h.1.1 in ((h.0, p), omega (arith, q (rows_room a h.1.1 h.0), listed-length (space_number a) rs)),
    λ h. (h.0.0, rows_more a rs 0 0 n h.0.1 (omega (arith, listed-length (space_number a) rs))),
  )

  -- in its element, and some
  listed_laws : Outer (list_at a n) (λ rs. element SEQUENCE (all (element_octets a) rs)) (λ rs. Chosen a n (listed rs))
  unfolding list_at
  listed_laws = tagged_laws (at 0) SEQUENCE (λ k. inner_as (filled_inner (at 0 refusal.EmptyList) (moved_inner k elements_laws)) list_as)

  -- what was written is read, by its first tag
  choice_reads : (c : Choice) (rest : List ℕ) → Chosen a n c → Sized (choice_octets a c) → choice_at a n (choice_octets a c ++ rest) ≡ part c rest
  unfolding choice_at listed_at
  choice_reads inherit rest o z = rw (tag_first NULL [] rest) ((inherit_laws n).reads inherit rest (refl, omega arith) z)
  choice_reads (listed rs) rest o z = rw (tag_first SEQUENCE (all (element_octets a) rs) rest, listed_laws.reads rs rest o z)

  -- THE LAWS OF A CHOICE
  pub choice_laws : Outer (choice_at a n) (choice_octets a) (Chosen a n)
  unfolding choice_at listed_at
  choice_laws = record { reads = choice_reads; wrote = λ s c rest b h. go s c rest b (eqb (get_or s 0 0) NULL) h }
    where
      go : (s : List ℕ) (c : Choice) (rest : List ℕ) → Octets s → (t : Bool) → pick t (inherit_at n s) (listed_at a n s) ≡ part c rest → (s ≡ choice_octets a c ++ rest) × Chosen a n c
      go s c rest b true h = let (e, o) = (inherit_laws n).wrote s c rest b h in rw o.0 (e, (tt, omega arith))
      go s c rest b false h = let (rs, e, q) = map_was listed (list_at a n s) c rest h in rw q (listed_laws.wrote s rs rest b e)

-- HOW LONG IT IS

-- an element is at most 4 octets longer than its contents
pub element_any : (t : ℕ) (c : List ℕ) → length (element t c) ≤ length c + 4
element_any t c = omega (arith, element_size_lem t c, head_few (length c))

-- 40 octets for each row
rows_size : (a : Space) (least : ℕ) (rs : List (ℕ × ℕ)) → Rising (bits_in a) least rs → length (all (element_octets a) rs) ≤ 40 * length rs
rows_size a least [] h = omega arith
rows_size a least (r ∷ rs) h = omega (arith, row_size a r h.0, rows_size a (r.1 + 2) rs h.2, length-append (element_octets a r) (all (element_octets a) rs))

-- and 4 more
pub choice_size : (a : Space) (s : ℕ) (c : Choice) → Lists (bits_in a) c → (length (choice_octets a c) ≤ 4 + 40 * length (choice_rows s c)) × (1 ≤ length (choice_rows s c))
choice_size a s inherit o = omega (arith, element_any NULL [])
choice_size a s (listed rs) o = let l = o.0 in omega (arith, element_any SEQUENCE (all (element_octets a) rs), rows_size a 0 rs o.1, listed-length s rs)
