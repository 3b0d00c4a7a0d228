-- The parts that the loops of `families` put together: a frame, the heads of the open list, a row's own octets. Assumes nothing.
--     frame_..       what stands in a family before the contents of its choice
--     open_..        the heads of the open list.       closing_..       those that stand behind a row.       own_..       a row's own octets
use mathlib.Core.Path.{◌≡◌, refl, sym, ap, ◌∙◌}
use mathlib.Core.List.{List, []}
use mathlib.Core.Bool.{Bool, true, false}
use Prim.Native.Nat.{ℕ, ◌+◌, ◌-◌, ◌≤◌}
use native.Mathlib.Omega.{arith}
use lib.Dec.{eqb}
use lib.ListN.{length}
use borrow.Author.Tests.{eq-eqb, ne_eqb}
use Rattle.number.specs.Tests.{pick}
use Rattle.std.specs.Prelude.{Option, Some, None}
use Rattle.table.specs.Spaces.{kind_of}
use Rattle.table.specs.Rows.{Row}
use Rattle.der.specs.Tags.{SEQUENCE, NULL}
use Rattle.der.specs.Head.{head_octets, head_size}
use Rattle.der.specs.Written.{written, head_written}
use Rattle.der.proofs.laws.Heads.{head_size_lem, head_few}
use Rattle.der.proofs.laws.Writing.{head_written_lem}
use Rattle.values.specs.Encode.{row_octets, group_heads}
use Rattle.writer.specs.Writer.{list_most, choice_most, heads_most, element_size}
use Rattle.writer.specs.Families.{Opened, Upto, frame, size_in, is_of, open_heads, joins, closing, own, onward}
use Rattle.writer.specs.declared.families.Open.{Open}
use Rattle.writer.proofs.laws.Groups.{heads_few}
use Rattle.writer.proofs.laws.Families.{frame_size, inherit_is}
use Rattle.writer.proofs.Placing.{upto_none, upto-length, upto_on}

-- A FRAME

-- an element's octets are few if its contents are
pub size_few : (n : ℕ) {s : ℕ} → s ≡ element_size n → n ≤ list_most → s ≤ choice_most
size_few n e h = omega (arith, head_few n)

-- its heads, counted
module _ (kind a n : ℕ) {s m k : ℕ} (p : s ≡ element_size n) (q : m ≡ length (group_heads kind a s)) (r : k ≡ head_size n) where
  pub frame_sum : m + k ≡ length (frame kind a SEQUENCE n)
  frame_sum = let e : length (group_heads kind a s) ≡ length (group_heads kind a (element_size n)) = rw p in omega (arith, frame_size kind a SEQUENCE n)

  pub frame_sum_few : m + k ≤ heads_most
  frame_sum_few = omega (arith, heads_few kind a s, head_few n)

-- its heads, written
module _ (kind a tag n : ℕ) {end k : ℕ} (h : length (frame kind a tag n) ≤ end) (r : k ≡ head_size n) where
  -- there is room for the last one
  pub frame_last : k ≤ end
  frame_last = omega (arith, frame_size kind a tag n)

  module _ {s m : ℕ} (p : s ≡ element_size n) (q : m ≡ length (group_heads kind a s)) where
    same_heads : length (group_heads kind a s) ≡ length (group_heads kind a (element_size n))
    same_heads = rw p

    -- and for those before it
    pub frame_first : m ≤ end - k
    frame_first = omega (arith, same_heads, frame_size kind a tag n)

    module _ (out : List ℕ) (z : end ≤ length out) (b : n ≤ list_most) {left : List ℕ} (w : left ≡ head_written out (end - k) tag n) where
      last_done : Upto out end (head_octets tag n) (end - k) left
      last_done = record { place = omega (arith, head_size_lem tag n, frame_last); done = w ∙ head_written_lem out (end - k) tag n (omega arith) }

      -- where they fit
      pub frame_room : end - k - m + length (group_heads kind a s) ≤ length left
      frame_room = omega (arith, upto-length last_done, same_heads, frame_size kind a tag n)

      -- all are written
      pub frame_done : {left' : List ℕ} → left' ≡ written left (end - k - m) (group_heads kind a s) → Upto out end (frame kind a tag n) (end - k - m) left'
      unfolding frame
      frame_done {left'} v = upto_on last_done z (record { place = omega (arith, ap length u, frame_first); done = v ∙ ap (λ (x : List ℕ). written left (end - k - m) x) u })
        where
          u : group_heads kind a s ≡ group_heads kind a (element_size n)
          u = rw p

-- THE SAME OCTETS, by another name
module _ {s u : List ℕ} (e : s ≡ u) where
  by_size : {n : ℕ} → n ≡ length u → n ≡ length s
  by_size h = h ∙ sym (ap length e)

  by_room : {end : ℕ} → length s ≤ end → length u ≤ end
  by_room h = rw e at h

  by_upto : {out left : List ℕ} {end r : ℕ} → Upto out end u r left → Upto out end s r left
  by_upto h = rw e h

-- THE OPEN LIST
module _ (list : Option Open) (r : Row) where
  -- a row joins it by its space
  pub join_some : (o : Open) → list ≡ Some o → (r.inherit ≡ 1 → ⊥) → eqb r.space o.space ≡ joins list r
  unfolding joins
  join_some o e n = rw (ne_eqb r.inherit 1 n, e)

  -- none joins if there is none
  pub join_none : list ≡ None → false ≡ joins list r
  unfolding joins
  join_none e = rw e (go (eqb r.inherit 1))
    where
      go : (b : Bool) → false ≡ pick b false false
      go true = refl
      go false = refl

  -- with a row that lists numbers in front: m octets more where it joins the list
  module _ (n : ℕ) where
    listed_is : {m : ℕ} → m ≡ pick (is_of list r.space) (size_in list) 0 → (r.inherit ≡ 1 → ⊥) → Some (record { space = r.space; size = m + n }) ≡ onward list r n
    unfolding onward
    listed_is {m} e i = rw (ne_eqb r.inherit 1 i, e) (go (is_of list r.space))
      where
        go : (b : Bool) → ◌≡◌ {A = Option Open} (Some (record { space = r.space; size = pick b (size_in list) 0 + n })) (pick b (Some (record { space = r.space; size = size_in list + n })) (Some (record { space = r.space; size = n })))
        go true = refl
        go false = let z : 0 + n ≡ n = omega arith in ap (λ (k : ℕ). Some (record { space = r.space; size = k })) z

    pub onward_same : (o : Open) {m : ℕ} → list ≡ Some o → (r.inherit ≡ 1 → ⊥) → r.space ≡ o.space → m ≡ o.size → Some (record { space = r.space; size = m + n }) ≡ onward list r n
    onward_same o e i h q = listed_is (rw (e, eq-eqb r.space o.space h) q) i

    pub onward_other : (o : Open) {m : ℕ} → list ≡ Some o → (r.inherit ≡ 1 → ⊥) → (r.space ≡ o.space → ⊥) → m ≡ 0 → Some (record { space = r.space; size = m + n }) ≡ onward list r n
    onward_other o e i h q = listed_is (rw (e, ne_eqb r.space o.space h) q) i

    pub onward_alone : {m : ℕ} → list ≡ None → (r.inherit ≡ 1 → ⊥) → m ≡ 0 → Some (record { space = r.space; size = m + n }) ≡ onward list r n
    onward_alone e i q = listed_is (rw e q) i

-- THE HEADS OF THE OPEN LIST
module _ (kind : ℕ) (list : Option Open) where
  no_heads : list ≡ None → open_heads kind list ≡ []
  unfolding open_heads
  no_heads e = rw e

  some_heads : (o : Open) → list ≡ Some o → open_heads kind list ≡ frame kind o.space SEQUENCE o.size
  unfolding open_heads
  some_heads o e = rw e

  -- counted
  pub open_zero : list ≡ None → 0 ≡ length (open_heads kind list)
  open_zero e = by_size (no_heads e) refl

  pub open_sum : (o : Open) {m : ℕ} → list ≡ Some o → m ≡ length (frame kind o.space SEQUENCE o.size) → m ≡ length (open_heads kind list)
  open_sum o e h = by_size (some_heads o e) h

  -- written
  pub open_nothing : (out : List ℕ) (end : ℕ) → list ≡ None → end ≤ length out → Upto out end (open_heads kind list) end out
  open_nothing out end e h = by_upto (no_heads e) (upto_none out end h)

  pub open_own : (o : Open) → Opened kind list → list ≡ Some o → (kind_of o.space ≡ kind) × (o.size ≤ list_most)
  open_own o h e = let k : Opened kind (Some o) = rw e at h in (k.own, k.few)

  pub open_room : (o : Open) {end : ℕ} → list ≡ Some o → length (open_heads kind list) ≤ end → length (frame kind o.space SEQUENCE o.size) ≤ end
  open_room o e h = by_room (some_heads o e) h

  pub open_done : (o : Open) {out left : List ℕ} {end r : ℕ} → list ≡ Some o → Upto out end (frame kind o.space SEQUENCE o.size) r left → Upto out end (open_heads kind list) r left
  open_done o e h = by_upto (some_heads o e) h

  -- THOSE THAT STAND BEHIND A ROW; j says whether it joins the list
  module _ (r : Row) {j : Bool} (q : j ≡ joins list r) where
    none_behind : j ≡ true → closing kind list r ≡ []
    unfolding closing
    none_behind e = rw (sym q ∙ e)

    some_behind : j ≡ false → closing kind list r ≡ open_heads kind list
    unfolding closing
    some_behind e = rw (sym q ∙ e)

    -- counted
    pub closing_zero : j ≡ true → 0 ≡ length (closing kind list r)
    closing_zero e = by_size (none_behind e) refl

    pub closing_sum : {m : ℕ} → j ≡ false → m ≡ length (open_heads kind list) → m ≡ length (closing kind list r)
    closing_sum e h = by_size (some_behind e) h

    -- written
    pub closing_nothing : (out : List ℕ) (end : ℕ) → j ≡ true → end ≤ length out → Upto out end (closing kind list r) end out
    closing_nothing out end e h = by_upto (none_behind e) (upto_none out end h)

    pub closing_room : {end : ℕ} → j ≡ false → length (closing kind list r) ≤ end → length (open_heads kind list) ≤ end
    closing_room e h = by_room (some_behind e) h

    pub closing_done : {out left : List ℕ} {end s : ℕ} → j ≡ false → Upto out end (open_heads kind list) s left → Upto out end (closing kind list r) s left
    closing_done e h = by_upto (some_behind e) h

-- A ROW'S OWN OCTETS
module _ (kind : ℕ) (r : Row) where
  inherits_is : r.inherit ≡ 1 → own kind r ≡ frame kind r.space NULL 0
  unfolding own
  inherits_is e = rw e (inherit_is kind r.space)

  lists_is : (r.inherit ≡ 1 → ⊥) → own kind r ≡ row_octets kind r
  unfolding own
  lists_is n = rw (ne_eqb r.inherit 1 n)

  -- counted
  pub own_inherit : {m : ℕ} → r.inherit ≡ 1 → m ≡ length (frame kind r.space SEQUENCE 0) → m ≡ length (own kind r)
  own_inherit e h = by_size (inherits_is e) (h ∙ frame_size kind r.space SEQUENCE 0 ∙ sym (frame_size kind r.space NULL 0))

  pub own_element : {m : ℕ} → (r.inherit ≡ 1 → ⊥) → m ≡ length (row_octets kind r) → m ≡ length (own kind r)
  own_element n h = by_size (lists_is n) h

  -- written
  pub own_frame_room : (a : ℕ) {end : ℕ} → r.inherit ≡ 1 → length (own kind r) ≤ end → r.space ≡ a → length (frame kind a NULL 0) ≤ end
  own_frame_room a e h p = rw (← p) (by_room (inherits_is e) h)

  pub own_frame_done : {out left : List ℕ} {end s : ℕ} → r.inherit ≡ 1 → Upto out end (frame kind r.space NULL 0) s left → Upto out end (own kind r) s left
  own_frame_done e h = by_upto (inherits_is e) h

  pub own_room : {end : ℕ} → (r.inherit ≡ 1 → ⊥) → length (own kind r) ≤ end → length (row_octets kind r) ≤ end
  own_room n h = by_room (lists_is n) h

  pub own_done : {out left : List ℕ} {end s : ℕ} → (r.inherit ≡ 1 → ⊥) → Upto out end (row_octets kind r) s left → Upto out end (own kind r) s left
  own_done n h = by_upto (lists_is n) h
