-- A value is one SEQUENCE and nothing after it: what its reader answers and leaves of the table, at each of its ends. Theorems. Assumes nothing.
--     value_bad, value_none, value_isnt, value_over, value_all.     value_place      its numbers
use mathlib.Core.Path.{◌≡◌, refl, sym, ap, ◌∙◌}
use mathlib.Core.List.{List}
use Prim.Native.Nat.{ℕ, ◌+◌, ◌-◌, ◌≤◌, ◌<◌}
use native.Mathlib.Omega.{arith}
use lib.ListN.{length, take, drop}
use Rattle.number.specs.declared.refusal.Refusal.{Refusal}
use Rattle.number.specs.declared.refusal.Refusal.TheVariants as refusal
use Rattle.table.specs.Rows.{Row}
use Rattle.der.specs.Tags.{SEQUENCE}
use Rattle.der.specs.Opening.{opening_of}
use Rattle.der.specs.Parts.{Contents, is, isnt, Part, tagged, only}
use Rattle.values.specs.Faults.{Fault, at, moved, later}
use Rattle.values.specs.Into.{CountedInto}
use Rattle.values.proofs.Joins.{tag_refused, tag_isnt, tag_took, tag_place}
use Rattle.values.proofs.Filling.{stands_still, counted_is, counted_not}
use Rattle.values.proofs.Wholes.{over, only_bad, only_over, only_all}
use Rattle.values.proofs.Answers.{Granted, counted_bad, counted_rows}
use Rattle.der.specs.Opening.{Opening}
use Rattle.std.specs.Prelude.{Ok, Err}
use Rattle.values.specs.Faults.{Read}

module _ {X : Type 0} (rows : X → List Row) (inner : ℕ → List ℕ → Contents X Fault) (n : ℕ) (v t : List ℕ) (o : Opening) (p : o ≡ opening_of SEQUENCE v) where
  abbrev element : List ℕ → Part X Fault
  element = tagged (at 0) SEQUENCE inner

  -- there is no SEQUENCE
  pub value_bad : (f : Refusal) → o ≡ Err f → CountedInto rows (length v) n t (only over element v) (Err (at 0 f)) t
  value_bad f q = counted_not rows (length v) n t t _ _ (at 0 f) (only_bad element v (at 0 f) (tag_refused SEQUENCE v p inner f q).told) refl (omega arith) (stands_still t)

  module _ (k e : ℕ) (q : o ≡ Ok (k, e)) where
    -- its contents are refused as a whole
    pub value_none : (f : Refusal) → inner k (take (e - k) (drop k v)) ≡ isnt (at 0 f) → CountedInto rows (length v) n t (only over element v) (Err (at 0 f)) t
    value_none f h = counted_not rows (length v) n t t _ _ (at 0 f) (only_bad element v (at 0 f) (tag_isnt SEQUENCE v p k e q inner (at 0 f) h (omega arith)).told) refl (omega arith) (stands_still t)

    -- they are read
    module _ (w : Contents X Fault) (b : inner k (take (e - k) (drop k v)) ≡ moved k w) (t' : List ℕ) (r : Read ℕ) (h : CountedInto rows (length (take (e - k) (drop k v))) n t w r t') where
      -- a place of them is one of the value
      pub value_place : (f : Fault) → r ≡ Err f → k + f.place ≤ length v
      value_place f u = tag_place SEQUENCE v p k e q f.place (counted_bad rows _ n t t' r w h f u).inside

      -- and refused
      pub value_isnt : (f : Fault) → r ≡ Err f → CountedInto rows (length v) n t (only over element v) (Err (later k f)) t'
      value_isnt f u =
          let d = counted_bad rows _ n t t' r w h f u in
          let l = value_place f u in
          let z : inner k (take (e - k) (drop k v)) ≡ isnt (later k f) = b ∙ ap (moved k) (sym d.was) in
          counted_not rows (length v) n t t' _ _ (later k f) (only_bad element v (later k f) (tag_isnt SEQUENCE v p k e q inner (later k f) z l).told) refl l d.stands

      module _ (m : ℕ) (u : r ≡ Ok m) where
        -- as a SEQUENCE
        value_is : Granted rows is w n m t t'
        value_is = counted_rows rows _ n t t' r w h m u

        -- but octets are left
        pub value_over : e < length v → CountedInto rows (length v) n t (only over element v) (Err (at e refusal.OctetsLeft)) t'
        value_over l =
            let g = value_is in
            let z : inner k (take (e - k) (drop k v)) ≡ is g.read = b ∙ ap (moved k) (sym g.was) in
            counted_not rows (length v) n t t' _ _ (at e refusal.OctetsLeft) (only_over element v g.read e (tag_took SEQUENCE v p k e q inner g.read z).told l) refl (omega arith) g.stands

        -- and none is
        pub value_all : length v ≤ e → CountedInto rows (length v) n t (only over element v) (Ok m) t'
        value_all l =
            let g = value_is in
            let z : inner k (take (e - k) (drop k v)) ≡ is g.read = b ∙ ap (moved k) (sym g.was) in
            counted_is rows (length v) n t t' _ _ g.read (only_all element v g.read e (tag_took SEQUENCE v p k e q inner g.read z).told l) (ap Ok g.count) g.table g.stands
