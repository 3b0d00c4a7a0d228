-- One certificate below a line that passes: its check passes with its rows after inheritance, or names its first fault. Assumes nothing.
--     above_of     what a line leaves for the next certificate
--     reads       the values of a proper certificate are read as what it lists and inherits
--     checks      the check of one certificate
use mathlib.Core.Path.{◌≡◌, refl}
use mathlib.Core.List.{List, [], ◌∷◌}
use mathlib.Core.Bool.{Bool, true, false}
use mathlib.Core.Logic.{◌⊎◌, inl, inr}
use Prim.Native.Nat.{ℕ, ◌+◌, ◌≤◌, ◌<◌}
use native.Mathlib.Omega.{arith}
use lib.ListN.{length, length-append}
use borrow.Author.Tests.{lt-ltb, le-ltb, ne_eqb}
use Rattle.std.specs.Prelude.{Option, Some, None}
use Rattle.number.specs.Tests.{pick}
use Rattle.number.proofs.Picks.{below}
use Rattle.table.specs.Sizes.{max_rows}
use Rattle.table.specs.Spaces.{ip_kind, as_kind}
use Rattle.table.specs.Rows.{Row}
use Rattle.table.specs.Tables.{Allowed}
use Rattle.table.proofs.From.{Before, earlier_space, same_space, tidy_from}
use Rattle.der.specs.Parts.{is, isnt}
use Rattle.values.specs.Limits.{ip_extension, as_extension, max_octets}
use Rattle.values.specs.Encode.{encode}
use Rattle.values.specs.declared.readings.Refused.{Refused}
use Rattle.values.proofs.laws.Exact.{Kind, ip_reads, as_reads, encode_size}
use Rattle.path.specs.Walk.{Result, covered, missing, walk}
use Rattle.path.specs.Inherit.{Spaces}
use Rattle.path.specs.Certificate.{Above, Step, onward, carried, value_step, ip_step, as_step, read_step, lacked, extensions_step, spaces_step, count_step, walk_step, hold_step, after_inheritance, after_presence, after_reading, certificate}
use Rattle.path.specs.Demand.{Extension, absent, carries, Certificate, carried_rows, listing, Lacks, LacksIp, LacksIds, Present, Inheriting, rows_at, Fits, Proper, value_of, pairs_at, Smaller, Missing, Fault}
use Rattle.path.proofs.laws.Walks.{Contained, Smallest, sound, smallest}
use Rattle.path.proofs.laws.Lacking.{Covers, covers}
use Rattle.path.proofs.laws.Lines.{listing_tidy, line_holds, holds_line, rows_list, rows_tidy, Passes, Passing, line_lists, line_tidy, line_space, space_line}

-- THE VALUES ARE READ

-- a value that is there, and not too long
carried_is : {kind : ℕ} (rows : List Row) → Kind kind → Allowed kind rows → carried (encode kind rows) ≡ true
carried_is {kind} rows k a = let s = encode_size kind rows k a in rw (ne_eqb (length (encode kind rows)) 0 (λ e. omega arith))

value_is : {kind : ℕ} (n extension : ℕ) (rows : List Row) → Kind kind → Allowed kind rows → value_step n extension (encode kind rows) (is rows) ≡ is rows
value_is {kind} n extension rows k a =
    let s = encode_size kind rows k a in
    rw (carried_is rows k a, le-ltb max_octets (length (encode kind rows)) s.1)

ip_is : (n : ℕ) (x : Extension) → Fits ip_kind x → ip_step n (value_of ip_kind x) ≡ is (carried_rows x)
unfolding ip_step
ip_is n absent f = refl
ip_is n (carries rows) f = rw (ip_reads rows f) (value_is n ip_extension rows (inl refl) f)

as_is : (n m : ℕ) (x : Extension) → Fits as_kind x → m + length (carried_rows x) ≤ max_rows → as_step n m (value_of as_kind x) ≡ is (carried_rows x)
unfolding as_step
as_is n m absent f l = refl
as_is n m (carries rows) f l = rw (as_reads m rows f l) (value_is n as_extension rows (inr refl) f)

pub reads : (n : ℕ) (c : Certificate) → Proper c → read_step n (value_of ip_kind c.ip) (value_of as_kind c.ids) ≡ is (listing c)
reads n c p =
    let l = length-append (carried_rows c.ip) (carried_rows c.ids) in
    rw (ip_is n c.ip p.ip, as_is n (length (carried_rows c.ip)) c.ids p.ids (omega (arith, p.few)))

-- 13: WHICH EXTENSION THE ISSUER LACKS

-- which extensions the first of a line carries; above the anchor none is lacking
abbrev pub has_ip : List Certificate → Bool
has_ip [] = true
has_ip (c ∷ line) = carried (value_of ip_kind c.ip)

abbrev pub has_ids : List Certificate → Bool
has_ids [] = true
has_ids (c ∷ line) = carried (value_of as_kind c.ids)

-- a test, and what it says
data Says (P : Type 0) : Bool → Type 0 where
  yes : P → Says P true
  no : (P → ⊥) → Says P false

-- carried here, and not by the issuer
abbrev less : Bool → Bool → Bool
less own issuer = pick own (pick issuer false true) false

extension_lacks : {kind : ℕ} → Kind kind → (x i : Extension) → Fits kind x → Fits kind i → Says (Lacks x i) (less (carried (value_of kind x)) (carried (value_of kind i)))
extension_lacks k absent i f g = Says.no (λ z. z)
extension_lacks k (carries rows) absent f g = rw (carried_is rows k f) (Says.yes tt)
extension_lacks k (carries rows) (carries more) f g = rw (carried_is rows k f, carried_is more k g) (Says.no (λ z. z))

anchor_lacks : (b : Bool) → Says ⊥ (less b true)
anchor_lacks true = Says.no (λ z. z)
anchor_lacks false = Says.no (λ z. z)

lacks_ip : {line : List Certificate} (c : Certificate) → Proper c → Passing line → Says (LacksIp c line) (less (carried (value_of ip_kind c.ip)) (has_ip line))
lacks_ip c p Passing.none = anchor_lacks (carried (value_of ip_kind c.ip))
lacks_ip c p (Passing.more {c = i} q h a) = extension_lacks {kind = ip_kind} (inl refl) c.ip i.ip p.ip q.ip

lacks_ids : {line : List Certificate} (c : Certificate) → Proper c → Passing line → Says (LacksIds c line) (less (carried (value_of as_kind c.ids)) (has_ids line))
lacks_ids c p Passing.none = anchor_lacks (carried (value_of as_kind c.ids))
lacks_ids c p (Passing.more {c = i} q h a) = extension_lacks {kind = as_kind} (inr refl) c.ids i.ids p.ids q.ids

-- none, or the first of the two
data Presence (c : Certificate) (line : List Certificate) : Option ℕ → Type 0 where
  both : Present c line → Presence c line None
  no_ip : LacksIp c line → Presence c line (Some ip_extension)
  no_ids : (LacksIp c line → ⊥) → LacksIds c line → Presence c line (Some as_extension)

presence : {line : List Certificate} (c : Certificate) → Proper c → Passing line → Presence c line (lacked (value_of ip_kind c.ip) (value_of as_kind c.ids) (has_ip line) (has_ids line))
unfolding lacked
presence {line} c p a = go (lacks_ip c p a) (lacks_ids c p a)
  where
    go : {s t : Bool} → Says (LacksIp c line) s → Says (LacksIds c line) t → Presence c line (pick s (Some ip_extension) (pick t (Some as_extension) None))
    go (Says.yes h) k = Presence.no_ip h
    go (Says.no n) (Says.yes h) = Presence.no_ids n h
    go (Says.no n) (Says.no m) = Presence.both (record { ip = n; ids = m })

-- ONE CERTIFICATE

-- what a line leaves for the next certificate
abbrev pub above_of : List Certificate → Above
above_of line = record { certificates = length line; rows = rows_at line; ip = has_ip line; ids = has_ids line }

-- it passes with its rows after inheritance and the pairs of its walk, or it is at fault
pub data Checks (c : Certificate) (line : List Certificate) : Step (List Row × ℕ) → Type 0 where
  passes : {k : ℕ} → Passes c line → pairs_at line + k ≡ pairs_at (c ∷ line) → Checks c line (is (rows_at (c ∷ line), k))
  at_fault : {f : Refused} → Fault c line f → Checks c line (isnt f)

-- 15: what the walk found, below an issuer
walk_checks : (c i : Certificate) (line : List Certificate) → Proper c → Passing (i ∷ line) → Present c (i ∷ line) → Inheriting c (i ∷ line) → length (rows_at (c ∷ i ∷ line)) ≤ max_rows
    → Checks c (i ∷ line) (walk_step (length (i ∷ line)) (rows_at (c ∷ i ∷ line)) (walk (rows_at (c ∷ i ∷ line)) (rows_at (i ∷ line))).result (walk (rows_at (c ∷ i ∷ line)) (rows_at (i ∷ line))).pairs)
walk_checks c i line p a e h l = go (walk own issuer).result refl
  where
    issuer : List Row
    issuer = rows_at (i ∷ line)

    own : List Row
    own = rows_at (c ∷ i ∷ line)

    earlier : {s n t m : ℕ} → Smaller t m s n → Before t m s n
    earlier (Smaller.by_space u) = earlier_space u
    earlier (Smaller.by_number e u) = same_space e (omega arith)

    free : {s n : ℕ} → Smallest own issuer s n → Missing c (i ∷ line) s n
    free m = record { held = holds_line (c ∷ i ∷ line) m.held; free = λ k. m.free (line_holds k); least = λ t n u k. holds_line (i ∷ line) (m.least t n (earlier u) (line_holds k)) }

    go : (r : Result) → (walk own issuer).result ≡ r → Checks c (i ∷ line) (walk_step (length (i ∷ line)) own r (walk own issuer).pairs)
    go covered q =
        let k : Contained own issuer = sound own issuer (line_lists a) q in
        Checks.passes (record { present = e; inheriting = h; few = l; contained = λ s n _ w. holds_line (i ∷ line) (k s n (line_holds w)) }) refl
    go (missing s n) q =
        let m = smallest own issuer (rows_tidy (i ∷ line) c p (line_tidy a) (line_lists a)) (line_tidy a) (rows_list (i ∷ line) c p (line_lists a)) (line_lists a) s n q in
        Checks.at_fault (Fault.not_held (omega arith) e h l (free m))

-- at the anchor there is no walk
hold_checks : (c : Certificate) (line : List Certificate) → Proper c → Passing line → Present c line → Inheriting c line → length (rows_at (c ∷ line)) ≤ max_rows → Checks c line (hold_step (above_of line) (rows_at (c ∷ line)))
unfolding hold_step
hold_checks c [] p a e h l = Checks.passes (record { present = e; inheriting = h; few = l; contained = λ s n z _. absurd (omega arith) }) refl
hold_checks c (i ∷ line) p a e h l = rw (ne_eqb (length (i ∷ line)) 0 (omega arith)) (walk_checks c i line p a e h l)

module _ (c : Certificate) (line : List Certificate) (p : Proper c) (a : Passing line) where
  -- 11: the rows are counted
  count_checks : Present c line → Inheriting c line → Checks c line (after_inheritance (above_of line) (rows_at (c ∷ line)))
  unfolding after_inheritance
  count_checks e h = go (below max_rows (length (rows_at (c ∷ line))))
    where
      go : (max_rows < length (rows_at (c ∷ line))) ⊎ (length (rows_at (c ∷ line)) ≤ max_rows) → Checks c line (onward (count_step (length line) (rows_at (c ∷ line))) (λ own. hold_step (above_of line) own))
      go (inl l) = rw (lt-ltb max_rows (length (rows_at (c ∷ line))) l) (Checks.at_fault (Fault.too_many e h l))
      go (inr l) = rw (le-ltb max_rows (length (rows_at (c ∷ line))) l) (hold_checks c line p a e h l)

  -- 14: the spaces that it inherits
  inherit_checks : Present c line → Checks c line (after_presence (above_of line) (listing c))
  unfolding after_presence
  inherit_checks e = go (covers (rows_at line) (listing c) (tidy_from (listing c) (listing_tidy c p)))
    where
      go : {o : Spaces} → Covers (rows_at line) (listing c) o → Checks c line (onward (spaces_step (length line) o (rows_at (c ∷ line))) (λ own. after_inheritance (above_of line) own))
      go (Covers.every f) = count_checks e (λ s i. space_line line (f s i))
      go (Covers.lowest i n f) = Checks.at_fault (Fault.no_space e (record { inherits = i; none = λ h. n (line_space a h); lowest = λ t l k. space_line line (f t l k) }))

  -- 13: the extensions that it carries
  presence_checks : Checks c line (after_reading (above_of line) (value_of ip_kind c.ip) (value_of as_kind c.ids) (listing c))
  unfolding after_reading
  presence_checks = go (presence c p a)
    where
      go : {x : Option ℕ} → Presence c line x → Checks c line (onward (extensions_step (length line) x (listing c)) (λ own. after_presence (above_of line) own))
      go (Presence.both e) = inherit_checks e
      go (Presence.no_ip n) = Checks.at_fault (Fault.no_ip n)
      go (Presence.no_ids m n) = Checks.at_fault (Fault.no_ids m n)

  -- THE CHECK OF ONE CERTIFICATE
  pub checks : Checks c line (certificate (above_of line) (value_of ip_kind c.ip) (value_of as_kind c.ids))
  unfolding certificate
  checks = rw (reads (length line) c p) presence_checks
