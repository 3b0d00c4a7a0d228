-- Outside the premises: the refusals 16, 18, 17, 12 and 18 of tables and framing come exactly when document 01 says. Theorems. Assumes nothing.
--     outside_refused    where the document has such a refusal, the check replies with it, and with the tables as the document says
--     outside_only       where it has none, the bundle is the writing of 1 to 8 certificates, and the check replies as the descent over them does
--     outside_exact      a reply with such a refusal, which names no extension, comes only where the document has it
use mathlib.Core.Path.{◌≡◌, refl, sym, ap, ◌∙◌}
use mathlib.Core.List.{List, [], ◌∷◌}
use mathlib.Core.Bool.{Bool, true, false}
use mathlib.Core.Logic.{◌⊎◌, inl, inr}
use Prim.Native.Nat.{ℕ, ◌+◌, ◌*◌, ◌≤◌, ◌<◌}
use native.Mathlib.Omega.{arith}
use lib.ListN.{length, get_or, take, drop}
use lib.Dec.{ltb, eqb}
use borrow.Author.Tests.{ltb-true, ltb-false, eqb-true, eqb-false}
use Rattle.std.specs.Prelude.{Ok, Err, Some, None}
use Rattle.number.specs.Tests.{pick}
use Rattle.number.specs.Octets.{Octets}
use Rattle.number.specs.Refusal.{number_of}
use Rattle.number.specs.declared.refusal.Refusal.{Refusal}
use Rattle.number.specs.declared.refusal.Refusal.TheVariants as refusal
use Rattle.number.proofs.Picks.{picks}
use Rattle.table.specs.Sizes.{max_rows, table_numbers}
use Rattle.table.specs.Rows.{Row, cleared}
use Rattle.path.specs.Bundle.{least_octets, most_octets, most_certificates, is_values, is_marked, frame_of, bundle_of}
use Rattle.der.specs.Parts.{Contents, is, isnt}
use Rattle.values.specs.Limits.{ip_extension, as_extension, max_octets, as_numbers}
use Rattle.values.specs.declared.faults.Fault.{Fault}
use Rattle.values.specs.Tables.{ip_rows, as_rows}
use Rattle.values.specs.declared.readings.Refused.{Refused}
use Rattle.path.specs.Walk.{Result, covered, missing, walk}
use Rattle.path.specs.Inherit.{Spaces, all, lacks, lacking, resolved}
use Rattle.path.specs.Replies.{fault_at, extension_of, Reply}
use Rattle.path.specs.Certificate.{Above, anchor, Step, onward, carried, blamed, value_step, ip_step, as_step, lacked, extensions_step, presence_step, spaces_step, walk_step, hold_step, after_inheritance, after_presence, after_reading, certificate}
use Rattle.path.specs.Paths.{Values, below, descent, path_of, Left, leaves, bare, check}
use Rattle.path.specs.Demand.{Lent, Sized, Marked, Counted, Written, Unframed, Outside}
use Rattle.path.proofs.laws.Framing.{head_of_lem, marked, certificates_read, framing_finds, Framed, framing_exact}

-- A TEST DECIDES A CONDITION

-- which is met, or not
data Decides (P : Type 0) : Bool → Type 0 where
  yes : P → Decides P true
  no : (P → ⊥) → Decides P false

by : {P X : Type 0} {t : Bool} → Decides P t → (P → X) → ((P → ⊥) → X) → X
by (Decides.yes p) y n = y p
by (Decides.no q) y n = n q

granted : {P : Type 0} {t : Bool} → Decides P t → P → t ≡ true
granted (Decides.yes p) h = refl
granted (Decides.no n) h = absurd (n h)

denied : {P : Type 0} {t : Bool} → Decides P t → (P → ⊥) → t ≡ false
denied (Decides.yes p) n = absurd (n p)
denied (Decides.no n) h = refl

-- a test that holds exactly with it
decided : {P : Type 0} (t : Bool) → (t ≡ true → P) → (P → t ≡ true) → Decides P t
decided true p q = Decides.yes (p refl)
decided false p q = Decides.no (λ h. let e = q h in let z : ◌≡◌ {A = ℕ} 0 1 = cc in omega arith)

-- two tests, either of which refuses
abbrev neither : Bool → Bool → Bool
neither true t = false
neither false true = false
neither false false = true

neither_decides : {P : Type 0} (s t : Bool) → (s ≡ true → P → ⊥) → (t ≡ true → P → ⊥) → (s ≡ false → t ≡ false → P) → Decides P (neither s t)
neither_decides true t m n p = Decides.no (m refl)
neither_decides false true m n p = Decides.no (n refl)
neither_decides false false m n p = Decides.yes (p refl refl)

neither_picks : {A : Type 0} (s t : Bool) (x y : A) → pick s x (pick t x y) ≡ pick (neither s t) y x
neither_picks true t x y = refl
neither_picks false true x y = refl
neither_picks false false x y = refl

-- THE TESTS OF THE CHECK

-- the tables
is_lent : (first second : List ℕ) → Decides (Lent first second) (neither (ltb (length first) table_numbers) (ltb (length second) table_numbers))
is_lent first second =
    neither_decides (ltb (length first) table_numbers) (ltb (length second) table_numbers)
    (λ e h. omega (arith, h.one, ltb-true (length first) table_numbers e))
    (λ e h. omega (arith, h.two, ltb-true (length second) table_numbers e))
    (λ e f. record { one = ltb-false (length first) table_numbers e; two = ltb-false (length second) table_numbers f })

-- the length
is_sized_lem : (b : List ℕ) → Decides (Sized b) (neither (ltb (length b) least_octets) (ltb most_octets (length b)))
is_sized_lem b =
    neither_decides (ltb (length b) least_octets) (ltb most_octets (length b))
    (λ e h. omega (arith, h.least, ltb-true (length b) least_octets e))
    (λ e h. omega (arith, h.most, ltb-true most_octets (length b) e))
    (λ e f. record { least = ltb-false (length b) least_octets e; most = ltb-false most_octets (length b) f })

-- the count
is_counted : (b : List ℕ) → Decides (Counted b) (neither (eqb (get_or b 5 0) 0) (ltb most_certificates (get_or b 5 0)))
is_counted b =
    neither_decides (eqb (get_or b 5 0) 0) (ltb most_certificates (get_or b 5 0))
    (λ e h. omega (arith, h.some, eqb-true (get_or b 5 0) 0 e))
    (λ e h. omega (arith, h.few, ltb-true most_certificates (get_or b 5 0) e))
    (λ e f. let none = eqb-false (get_or b 5 0) 0 e in record { some = omega arith; few = ltb-false most_certificates (get_or b 5 0) f })

-- the first five octets
five : (b : List ℕ) → 6 ≤ length b → take 5 b ≡ get_or b 0 0 ∷ get_or b 1 0 ∷ get_or b 2 0 ∷ get_or b 3 0 ∷ get_or b 4 0 ∷ []
five b l = ap (λ (s : List ℕ). take 5 s) (head_of_lem b l)

-- the mark and the version
marks : (b : List ℕ) → Sized b → Marked b → is_marked b ≡ true
unfolding is_marked
marks b s m =
    let long : 5 ≤ length b = omega (arith, s.least) in
    let h = sym (five b s.least) ∙ m in
    let e₀ : get_or b 0 0 ≡ 0x52 = cc in
    let e₁ : get_or b 1 0 ≡ 0x43 = cc in
    let e₂ : get_or b 2 0 ≡ 0x48 = cc in
    let e₃ : get_or b 3 0 ≡ 0 = cc in
    let e₄ : get_or b 4 0 ≡ 1 = cc in
    sym (search picks depth 12 fits 20000)

is_marked_lem : (b : List ℕ) → Sized b → Decides (Marked b) (is_marked b)
is_marked_lem b s = decided (is_marked b) (λ e. ap (λ (x : List ℕ). take 5 x) (marked b (drop 6 b) (get_or b 5 0) s.least e refl refl)) (marks b s)

-- the framing by its four conditions
frame_as : (b : List ℕ) → frame_of b ≡
    pick (neither (ltb (length b) least_octets) (ltb most_octets (length b)))
    (pick (is_marked b)
    (pick (neither (eqb (get_or b 5 0) 0) (ltb most_certificates (get_or b 5 0)))
    (pick (is_values (2 * get_or b 5 0) (drop 6 b)) (Ok (get_or b 5 0)) (Err refusal.Framing))
    (Err refusal.CertificateCount))
    (Err refusal.Mark))
    (Err refusal.Framing)
unfolding frame_of
frame_as b = rw (neither_picks, neither_picks)

-- with all before it met, the last test decides whether certificates are written
frames : (b : List ℕ) → Sized b → Marked b → Counted b → is_values (2 * get_or b 5 0) (drop 6 b) ≡ true → frame_of b ≡ Ok (get_or b 5 0)
frames b s m c e = frame_as b ∙ rw (granted (is_sized_lem b) s, granted (is_marked_lem b s) m, granted (is_counted b) c, e)

wrote : (b : List ℕ) → Written b → is_values (2 * get_or b 5 0) (drop 6 b) ≡ true
unfolding bundle_of
wrote b w = rw w.is (certificates_read w.certificates)

framed : (b : List ℕ) → Octets b → Sized b → Marked b → Counted b → is_values (2 * get_or b 5 0) (drop 6 b) ≡ true → Framed b (get_or b 5 0)
framed b o s m c e = framing_exact b (get_or b 5 0) o (frames b s m c e)

is_written : (b : List ℕ) → Octets b → Sized b → Marked b → Counted b → Decides (Written b) (is_values (2 * get_or b 5 0) (drop 6 b))
is_written b o s m c =
    decided (is_values (2 * get_or b 5 0) (drop 6 b)) (λ e. let f = framed b o s m c e in record { certificates = f.certificates; is = f.written }) (wrote b)

-- WHERE THERE IS A REFUSAL

-- the framing refuses as the document says
unframed_refused : {b : List ℕ} {r : Refusal} → Octets b → Unframed b r → frame_of b ≡ Err r
unframed_refused {b} o (Unframed.size n) = frame_as b ∙ rw (denied (is_sized_lem b) n)
unframed_refused {b} o (Unframed.mark s n) = frame_as b ∙ rw (granted (is_sized_lem b) s, denied (is_marked_lem b s) n)
unframed_refused {b} o (Unframed.count s m n) = frame_as b ∙ rw (granted (is_sized_lem b) s, granted (is_marked_lem b s) m, denied (is_counted b) n)
unframed_refused {b} o (Unframed.frame s m c n) = frame_as b ∙ rw (granted (is_sized_lem b) s, granted (is_marked_lem b s) m, granted (is_counted b) c, denied (is_written b o s m c) n)

-- the check by its tables
check_as : (b first second : List ℕ) → check b first second ≡
    pick (neither (ltb (length first) table_numbers) (ltb (length second) table_numbers)) (leaves (path_of b) first second) (bare refusal.TableShort, first, second)
unfolding check
check_as b first second = neither_picks (ltb (length first) table_numbers) (ltb (length second) table_numbers) (bare refusal.TableShort, first, second) (leaves (path_of b) first second)

-- and the path by its framing
path_refused : (b : List ℕ) (r : Refusal) → frame_of b ≡ Err r → path_of b ≡ isnt (fault_at r 0 0 0 0)
unfolding path_of
path_refused b r e = rw e

path_framed : (b : List ℕ) (n : ℕ) → frame_of b ≡ Ok n → (f : Framed b n) → path_of b ≡ descent anchor 0 f.certificates
unfolding path_of
path_framed b n e f = rw (e, f.written, f.count) (ap (λ (cs : List Values). descent anchor 0 cs) (framing_finds f.certificates))

-- "On 16 both tables are unchanged. Otherwise .. all zeros on refusal"
abbrev pub emptied : Refusal → List ℕ → List ℕ
emptied r t = pick (eqb (number_of r) 16) t (cleared table_numbers t)

-- Where the document has such a refusal, the check replies with it: certificate, extension, place, space and value 0, and the tables as it says.
pub outside_refused : (b first second : List ℕ) (r : Refusal) → Octets b → Outside b first second r → check b first second ≡ (bare r, emptied r first, emptied r second)
outside_refused b first second r o (Outside.short n) = check_as b first second ∙ rw (denied (is_lent first second) n)
outside_refused b first second r o (Outside.unframed l u) = check_as b first second ∙ rw (granted (is_lent first second) l, path_refused b _ (unframed_refused o u)) (go u)
  where
    go : {q : Refusal} → Unframed b q → ◌≡◌ {A = Left} (bare q, cleared table_numbers first, cleared table_numbers second) (bare q, emptied q first, emptied q second)
    go (Unframed.size n) = refl
    go (Unframed.mark s n) = refl
    go (Unframed.count s m n) = refl
    go (Unframed.frame s m c n) = refl

-- WHERE THERE IS NONE

-- With tables that are long enough, of a bundle that is the writing of 1 to 8 certificates, of at most 65,536 octets, the reply is that of the descent over them.
pub record Inside (b first second : List ℕ) : Type 0 where
  pub lent : Lent first second
  pub certificates : List Values
  pub written : b ≡ bundle_of certificates
  pub some : 0 < length certificates
  pub few : length certificates ≤ most_certificates
  pub fits : length b ≤ most_octets
  pub path : path_of b ≡ descent anchor 0 certificates
  pub reply : check b first second ≡ leaves (descent anchor 0 certificates) first second

inside : (b first second : List ℕ) → Lent first second → (n : ℕ) → frame_of b ≡ Ok n → Framed b n → Inside b first second
inside b first second l n e f =
    let d : path_of b ≡ descent anchor 0 f.certificates = path_framed b n e f in
    record {
      lent = l;
      certificates = f.certificates;
      written = f.written;
      some = f.some;
      few = f.few;
      fits = omega (arith, ap length f.written, f.fits);
      path = d;
      reply = check_as b first second ∙ rw (granted (is_lent first second) l, d);
    }

-- There is such a refusal, or the bundle is one of certificates.
pub outside_only : (b first second : List ℕ) → Octets b → ((r : Refusal) × Outside b first second r) ⊎ Inside b first second
outside_only b first second o =
    by (is_lent first second)
    (λ l. by (is_sized_lem b)
    (λ s. by (is_marked_lem b s)
    (λ m. by (is_counted b)
    (λ c. by (is_written b o s m c)
    (λ w. inr (inside b first second l (get_or b 5 0) (frames b s m c (wrote b w)) (framed b o s m c (wrote b w))))
    (λ n. inl (refusal.Framing, Outside.unframed l (Unframed.frame s m c n))))
    (λ n. inl (refusal.CertificateCount, Outside.unframed l (Unframed.count s m n))))
    (λ n. inl (refusal.Mark, Outside.unframed l (Unframed.mark s n))))
    (λ n. inl (refusal.Framing, Outside.unframed l (Unframed.size n))))
    (λ n. inl (refusal.TableShort, Outside.short n))

-- THE DESCENT HAS NO SUCH REFUSAL

-- it names an extension, or is number 11
abbrev Later : Refused → Type 0
Later f = (f.extension ≡ 0 → ⊥) ⊎ (f.refusal ≡ refusal.RowCount)

-- a step goes on, or stops with a refusal of that sort
data Goes {A : Type 0} : Step A → Type 0 where
  on : {a : A} → Goes (is a)
  stops : {f : Refused} → Later f → Goes (isnt f)

goes_on : {A B : Type 0} {o : Step A} {next : A → Step B} → Goes o → ((a : A) → Goes (next a)) → Goes (onward o next)
goes_on Goes.on g = g _
goes_on (Goes.stops l) g = Goes.stops l

goes_pick : {A : Type 0} (t : Bool) {o p : Step A} → Goes o → Goes p → Goes (pick t o p)
goes_pick true g h = g
goes_pick false g h = h

-- a space has an extension
extension_some : (s : ℕ) → extension_of s ≡ 0 → ⊥
unfolding extension_of
extension_some s = go (ltb s as_numbers)
  where
    go : (t : Bool) → pick t ip_extension as_extension ≡ 0 → ⊥
    go true e = omega arith
    go false e = omega arith

-- step by step: the values,
value_goes : (k e : ℕ) (v : List ℕ) (rows : Contents (List Row) Fault) → (e ≡ 0 → ⊥) → Goes (value_step k e v rows)
value_goes k e v rows n = goes_pick (carried v) (goes_pick (ltb max_octets (length v)) (Goes.stops (inl n)) (go rows)) Goes.on
  where
    go : (rows : Contents (List Row) Fault) → Goes (blamed k e rows)
    go (is r) = Goes.on
    go (isnt f) = Goes.stops (inl n)

ip_goes : (k : ℕ) (v : List ℕ) → Goes (ip_step k v)
unfolding ip_step
ip_goes k v = value_goes k ip_extension v (ip_rows v) (λ e. omega arith)

ids_go : (k n : ℕ) (v : List ℕ) → Goes (as_step k n v)
unfolding as_step
ids_go k n v = value_goes k as_extension v (as_rows n v) (λ e. omega arith)

-- 13,
presence_goes : (a : Above) (ip ids : List ℕ) (rows : List Row) → Goes (presence_step a ip ids rows)
unfolding lacked
presence_goes a ip ids rows = go (pick (carried ip) (pick a.ip false true) false) (pick (carried ids) (pick a.ids false true) false)
  where
    go : (s t : Bool) → Goes (extensions_step a.certificates (pick s (Some ip_extension) (pick t (Some as_extension) None)) rows)
    go true t = Goes.stops (inl (λ e. omega arith))
    go false true = Goes.stops (inl (λ e. omega arith))
    go false false = Goes.on

-- 14,
spaces_go : (k : ℕ) (x : Spaces) (rows : List Row) → Goes (spaces_step k x rows)
spaces_go k all rows = Goes.on
spaces_go k (lacks s) rows = Goes.stops (inl (extension_some s))

-- 15,
walk_goes : (k : ℕ) (rows : List Row) (x : Result) (p : ℕ) → Goes (walk_step k rows x p)
walk_goes k rows covered p = Goes.on
walk_goes k rows (missing s n) p = Goes.stops (inl (extension_some s))

-- all of one certificate, 11 among it,
certificate_goes : (a : Above) (ip ids : List ℕ) → Goes (certificate a ip ids)
unfolding certificate after_reading after_presence after_inheritance hold_step
certificate_goes a ip ids =
    goes_on (goes_on (ip_goes a.certificates ip) (λ rows. goes_on (ids_go a.certificates (length rows) ids) (λ more. Goes.on)))
    (λ rows. goes_on (presence_goes a ip ids rows)
    (λ rows. goes_on (spaces_go a.certificates (lacking a.rows rows) (resolved a.rows rows))
    (λ rows. goes_on (goes_pick (ltb max_rows (length rows)) (Goes.stops (inr refl)) Goes.on)
    (λ rows. goes_pick (eqb a.certificates 0) Goes.on (walk_goes a.certificates rows (walk rows a.rows).result (walk rows a.rows).pairs)))))

-- and all certificates
descent_goes : (a : Above) (p : ℕ) (cs : List Values) → Goes (descent a p cs)
unfolding descent
descent_goes a p [] = Goes.on
descent_goes a p (c ∷ cs) = goes_on (certificate_goes a c.0 c.1) (λ h. descent_goes (below a c h.0) (p + h.1) cs)

-- one reply has one refusal
same_fault : {f g : Refused} → ◌≡◌ {A = Reply} (Err f) (Err g) → f ≡ g
same_fault {f} {g} e = cc

-- the descent replies with none
no_bare : {o : Step (List Row × ℕ)} (first second : List ℕ) (r : Refusal) → Goes o → (r ≡ refusal.RowCount → ⊥) → (leaves o first second).0 ≡ bare r → ⊥
no_bare first second r Goes.on n e = let z : ◌≡◌ {A = ℕ} 0 1 = cc in omega arith
no_bare first second r (Goes.stops (inl m)) n e = m (ap (λ (f : Refused). f.extension) (same_fault e))
no_bare first second r (Goes.stops (inr m)) n e = n (sym (ap (λ (f : Refused). f.refusal) (same_fault e)) ∙ m)

-- A reply of a refusal that names no extension, other than 11 after inheritance, comes only where the document has it.
pub outside_exact : (b first second : List ℕ) (r : Refusal) → Octets b → (r ≡ refusal.RowCount → ⊥) → (check b first second).0 ≡ bare r → Outside b first second r
outside_exact b first second r o n e = go (outside_only b first second o)
  where
    go : ((q : Refusal) × Outside b first second q) ⊎ Inside b first second → Outside b first second r
    go (inl (q, u)) = let s : q ≡ r = ap (λ (f : Refused). f.refusal) (same_fault (sym (ap (λ (x : Left). x.0) (outside_refused b first second q o u)) ∙ e)) in rw (← s) u
    go (inr i) = absurd (no_bare first second r (descent_goes anchor 0 i.certificates) n (sym (ap (λ (x : Left). x.0) i.reply) ∙ e))
