-- The replies of `write`, in the order of its tests. Assumes nothing.
--     encode_is      the value of a table is its families in a SEQUENCE
--     known_..       a kind by its number.       reply_..       what each exit of `write` gives.       value_..       those of `put`
use mathlib.Core.Path.{◌≡◌, refl, sym, ap, ◌∙◌}
use mathlib.Core.List.{List, [], ◌∷◌}
use mathlib.Core.Bool.{Bool, true, false}
use Prim.Native.Nat.{ℕ, ◌+◌, ◌≤◌, ◌<◌}
use native.Mathlib.Omega.{arith}
use lib.ListN.{length}
use lib.Dec.{eqb}
use borrow.Author.Tests.{eqb-true, eqb-false, lt-ltb, le-ltb, ne_eqb}
use Rattle.std.specs.Prelude.{Result, Ok, Err}
use Rattle.number.specs.Tests.{pick}
use Rattle.number.specs.declared.refusal.Refusal.TheVariants as refusal
use Rattle.table.specs.Spaces.{mixed_kind, ip_kind, as_kind, kind_number, kind_told}
use Rattle.table.specs.declared.kinds.Kind.{Kind}
use Rattle.table.specs.declared.kinds.UnknownKind.{UnknownKind}
use Rattle.table.proofs.laws.Papers.{number_some, told_was, told_none}
use Rattle.table.specs.Rows.{room, rows_of}
use Rattle.table.specs.Tables.{is_table}
use Rattle.der.specs.Tags.{SEQUENCE}
use Rattle.der.specs.Head.{element, head_octets, head_size}
use Rattle.der.specs.Walk.{all}
use Rattle.der.specs.Written.{written, head_written}
use Rattle.der.proofs.laws.Heads.{head_size_lem, element_size_lem}
use Rattle.der.proofs.laws.Writing.{written_on, head_written_lem, element_is}
use Rattle.values.specs.Limits.{as_extension}
use Rattle.values.specs.Choices.{Choice}
use Rattle.values.specs.Encode.{grouped, family_octets, member_octets, group_octets, encode}
use Rattle.writer.specs.Writer.{Writing, families_most, refused_as, put, element_size, rowless, write}
use Rattle.writer.specs.Families.{Upto, families}

-- families by the kind
module _ (kind : ℕ) where
  ip_groups : eqb kind ip_kind ≡ true → (fs : List (ℕ × Choice)) → all (group_octets kind) fs ≡ all family_octets fs
  unfolding group_octets
  ip_groups e [] = refl
  ip_groups e (f ∷ fs) = rw (e, ip_groups e fs)

  as_groups : eqb kind ip_kind ≡ false → (fs : List (ℕ × Choice)) → all (group_octets kind) fs ≡ all member_octets fs
  unfolding group_octets
  as_groups e [] = refl
  as_groups e (f ∷ fs) = rw (e, as_groups e fs)

  -- THE VALUE OF A TABLE IS ITS FAMILIES IN A SEQUENCE
  pub encode_is : (t : List ℕ) → encode kind (rows_of (room t) t) ≡ element SEQUENCE (families kind t)
  unfolding encode families
  encode_is t = go (eqb kind ip_kind) refl
    where
      go : (b : Bool) → eqb kind ip_kind ≡ b → element SEQUENCE (pick b (all family_octets (grouped (rows_of (room t) t))) (all member_octets (grouped (rows_of (room t) t)))) ≡ element SEQUENCE (all (group_octets kind) (grouped (rows_of (room t) t)))
      go true e = rw (ip_groups e (grouped (rows_of (room t) t)))
      go false e = rw (as_groups e (grouped (rows_of (room t) t)))

-- a kind that was told by its number
module _ (kind : ℕ) {u : Result Kind UnknownKind} {x : Kind} (e : u ≡ kind_told kind) (f : u ≡ Ok x) where
  pub known_was : kind_number x ≡ kind
  known_was = told_was kind x (sym e ∙ f)

  pub known_some : kind ≡ mixed_kind → ⊥
  known_some m = number_some x (known_was ∙ m)

module _ (kind : ℕ) (t out : List ℕ) where
  -- a mixed table
  reply_mixed : (r : Writing) → kind ≡ mixed_kind → r ≡ refused_as refusal.NotATable 0 → (r, out) ≡ write kind t out
  unfolding write
  reply_mixed r e h = rw (e, h)

  module _ (n : kind ≡ mixed_kind → ⊥) {b : Bool} (p : b ≡ is_table kind t) where
    -- no table
    pub reply_none : (r : Writing) → b ≡ false → r ≡ refused_as refusal.NotATable 0 → (r, out) ≡ write kind t out
    unfolding write
    reply_none r e h = rw (ne_eqb kind mixed_kind n, sym p ∙ e, h)

    module _ (e : b ≡ true) {d : Bool} (q : d ≡ rowless kind (room t)) where
      -- no row
      pub reply_rowless : (r : Writing) → d ≡ true → r ≡ refused_as refusal.EmptyList as_extension → (r, out) ≡ write kind t out
      unfolding write
      reply_rowless r f h = rw (ne_eqb kind mixed_kind n, sym p ∙ e, sym q ∙ f, h)

      -- the value
      pub reply_value : (r : Writing) (left : List ℕ) → d ≡ false → (r, left) ≡ put (element SEQUENCE (families kind t)) out → (r, left) ≡ write kind t out
      unfolding write
      reply_value r left f h = rw (ne_eqb kind mixed_kind n, sym p ∙ e, sym q ∙ f, encode_is kind t) h

  -- a number of no kind
  beyond : as_kind < kind → false ≡ is_table kind t
  unfolding is_table
  beyond h = rw (lt-ltb as_kind kind h)

  pub reply_unknown : (u : Result Kind UnknownKind) → u ≡ kind_told kind → ((x : Kind) → u ≡ Ok x → ⊥) → (r : Writing) → r ≡ refused_as refusal.NotATable 0 → (r, out) ≡ write kind t out
  reply_unknown (Ok x) e n r h = absurd (n x refl)
  reply_unknown (Err x) e n r h = go (eqb kind mixed_kind) refl
    where
      go : (b : Bool) → eqb kind mixed_kind ≡ b → (r, out) ≡ write kind t out
      go true p = reply_mixed r (eqb-true kind mixed_kind p) h
      go false p = let m = eqb-false kind mixed_kind p in reply_none m (beyond (told_none kind x (sym e) m)) r refl h

  -- THE VALUE
  module _ {inner size : ℕ} (i : inner ≡ length (families kind t)) (s : size ≡ element_size inner) where
    -- how many octets it has
    size_is : length (element SEQUENCE (families kind t)) ≡ size
    size_is = element_size_lem SEQUENCE (families kind t) ∙ sym (s ∙ rw i)

    -- too many
    pub value_short : (r : Writing) → length out < size → r ≡ refused_as refusal.OutputShort 0 → (r, out) ≡ put (element SEQUENCE (families kind t)) out
    value_short r l h = rw (size_is, lt-ltb (length out) size l, h)

    -- all is written: the head first, then the families behind it
    pub value_done : (start : ℕ) {left left' : List ℕ} → size ≤ length out → inner ≤ families_most → left ≡ head_written out 0 SEQUENCE inner → Upto left size (families kind t) start left'
        → (Ok size, left') ≡ put (element SEQUENCE (families kind t)) out
    value_done start {left} {left'} l m v w = rw (size_is, le-ltb (length out) size l) (ap (λ (x : List ℕ). (Ok size, x)) done)
      where
        head : List ℕ
        head = head_octets SEQUENCE (length (families kind t))

        first : left ≡ written out 0 head
        first = v ∙ head_written_lem out 0 SEQUENCE inner (omega arith) ∙ rw i

        at : start ≡ 0 + length head
        at = omega (arith, w.place, head_size_lem SEQUENCE (length (families kind t)), ap head_size i)

        done : left' ≡ written out 0 (element SEQUENCE (families kind t))
        done =
            w.done
            ∙ rw (first, at, element_is SEQUENCE (families kind t))
            (written_on out 0 head (families kind t) (omega (arith, head_size_lem SEQUENCE (length (families kind t)), ap head_size i)))
