-- One reply: two replies that a function's promise allows are equal, and so is what they leave in a lent table (`Rattle.number.proofs.laws.OneReply`). Theorems. Assumes nothing.
--     Typed                        a promise, of a result whose numbers fit their types: what a caller is told of every result
--     found_one                    one element: where the promise says its row by whole numbers and its end by what is left
--     left_of, left_in, counted_one, chosen_one      the four readers of the private modules: on a refusal their promise leaves the first 3,072 numbers of the table open, which count as zeros here, as the entries make them
--     NAME_one_reply               for each public function of this crate
use mathlib.Core.Path.{◌≡◌, refl, sym, ap, ◌∙◌}
use mathlib.Core.List.{List}
use Rattle.std.proofs.Common.{Fits, w64}
use Prim.Native.Nat.{ℕ, ◌+◌, ◌^◌, ◌<◌, ◌≤◌}
use native.Mathlib.Omega.{arith}
use contract.Lifetimes.{Lfts}
use lib.ListN.{length, drop, length-drop}
use Rattle.number.specs.Halves.{whole, halves}
use Rattle.number.specs.declared.halves.Halves.{Halves}
use Rattle.number.proofs.TwoHalves.{halves_whole}
use Rattle.number.proofs.laws.OneReply.{OneReply, one_reply}
use Rattle.table.specs.Sizes.{table_numbers}
use Rattle.table.specs.Rows.{Row, cleared}
use Rattle.der.specs.Parts.{Contents, is, isnt, Part, part, nopart}
use Rattle.values.specs.Faults.{Fault}
use Rattle.values.specs.Limits.{as_numbers, routing_domains}
use Rattle.values.specs.Choices.{Choice, choice_at, choice_rows, listed_rows}
use Rattle.values.specs.Elements.{elements_of}
use Rattle.values.specs.Blocks.{read_blocks}
use Rattle.values.specs.Tables.{blocks_rows, identifiers_rows}
use Rattle.values.specs.Identifiers.{read_identifiers}
use Rattle.values.specs.Spaces.{space_number}
use Rattle.values.specs.Seen.{found_seen, FoundIn}
use Rattle.values.specs.Into.{Stands, counted, chosen, CountedInto, ChosenInto}
use Rattle.values.specs.Readings.{Left}
use Rattle.values.proofs.addresses.element.Kinds as of_element
use Rattle.values.proofs.addresses.element.Reads as element
use Rattle.values.proofs.blocks.read.Reads as blocks_read
use Rattle.values.proofs.briefs.is_brief.Reads as is_brief
use Rattle.values.proofs.choices.read.Reads as choices_read
use Rattle.values.proofs.elements.U64FromSpace.from.Reads as number
use Rattle.values.proofs.elements.read.Reads as elements_read
use Rattle.values.proofs.identifiers.read.Reads as identifiers_read
use Rattle.values.proofs.ids.row.Reads as row
use Rattle.values.proofs.ids.range.Reads as range
use Rattle.values.proofs.ids.element.Reads as id_element
use Rattle.values.proofs.ids.element.Kinds as of_id
use Rattle.values.proofs.parts.fault.Reads as fault
use Rattle.values.proofs.parts.has_octets.Reads as has_octets
use Rattle.values.proofs.readings.naming.Reads as naming
use Rattle.values.proofs.readings.step_ip.Reads as step_ip
use Rattle.values.proofs.readings.step_as.Reads as step_as
use Rattle.values.proofs.readings.read_ip.Reads as read_ip
use Rattle.values.proofs.readings.read_as.Reads as read_as
use Rattle.values.proofs.readings.step_both.Reads as step_both
use Rattle.values.proofs.readings.read_both.Reads as read_both
use Rattle.values.specs.Faults.{Read, Taken}
use Rattle.std.specs.Prelude.{Ok, Err, IfErr}
use Rattle.std.proofs.prelude.U32FromU8.from.Reads as wide
use Rattle.table.specs.declared.rows.Row as code

-- a promise, of a result whose numbers fit their types
abbrev Typed : {K : Type 0} {A R S : K → Type 0} → ((κs : K) → R κs → Type 0) → ((κs : K) → A κs → R κs → S κs → Type 0) → (κs : K) → A κs → R κs → S κs → Type 0
Typed Held Post κs a r s = Held κs r × Post κs a r s

-- what is left of a list says how much was taken
end_one : (s : List ℕ) (j k : ℕ) → j ≤ length s → k ≤ length s → drop j s ≡ drop k s → j ≡ k
end_one s j k p q e = omega (arith, length-drop j s, length-drop k s, ap length e)

-- a number has its halves alone
halves_one : (x y : Halves) → x.lower < 2 ^ 64 → y.lower < 2 ^ 64 → whole x ≡ whole y → x ≡ y
halves_one x y p q e = halves_whole x p ∙ ap halves e ∙ sym (halves_whole y q)

-- the two spaces of identifiers are numbers of 64 bits
abbrev as_fits : Fits w64 as_numbers
as_fits = record { fits = omega arith }

abbrev rdi_fits : Fits w64 routing_domains
rdi_fits = record { fits = omega arith }

-- the lower halves of a found row fit
abbrev Fit : Taken code.Row → Type 0
Fit (Ok (row, end)) = (row.low.lower < 2 ^ 64) × (row.high.lower < 2 ^ 64)
Fit (Err f) = Unit {0}

fit : (κs : Lfts 1) (f : Taken code.Row) → (of_element.r).is.Ok κs f → Fit f
fit κs (Ok (row, end)) p = (omega arith, omega arith)
fit κs (Err f) p = tt

fit_id : (n : ℕ) (h : Fits w64 n) (κs : Lfts 2) (f : Taken code.Row) → (of_id.r n h).is.Ok κs f → Fit f
fit_id n h κs (Ok (row, end)) p = (omega arith, omega arith)
fit_id n h κs (Err f) p = tt

-- one element: its row in the space a and its end, or its refusal and place
found_one : (s : List ℕ) (a : ℕ) (f g : Taken code.Row) → Fit f → Fit g → found_seen s f ≡ found_seen s g → FoundIn a (length s) f → FoundIn a (length s) g → f ≡ g
found_one s a (Ok (row, end)) (Ok (row', end')) p q e i j =
    let w : ◌≡◌ {A = ℕ × ℕ} (whole row.low, whole row.high) (whole row'.low, whole row'.high) = cc in
    let x = halves_one row.low row'.low p.0 q.0 (ap (λ (n : ℕ × ℕ). n.0) w) in
    let y = halves_one row.high row'.high p.1 q.1 (ap (λ (n : ℕ × ℕ). n.1) w) in
    let z = end_one s end end' i.2.1 j.2.1 (cc) in
    λ k. Ok ((record { space = one_reply i.0 j.0 k; inherit = one_reply i.1 j.1 k; low = x k; high = y k }), (z k))
found_one s a (Ok (row, end)) (Err f) p q e i j = let z : ◌≡◌ {A = ℕ} 0 1 = cc in absurd (omega arith)
found_one s a (Err f) (Ok (row', end')) p q e i j = let z : ◌≡◌ {A = ℕ} 0 1 = cc in absurd (omega arith)
found_one s a (Err f) (Err g) p q e i j = let w : f ≡ g = cc in ap Err w

-- a table of which a promise says no more than how long it is and what follows its first 3,072 numbers, with zeros for those
open_one : (t t₁ t₂ : List ℕ) → Stands t t₁ → Stands t t₂ → cleared table_numbers t₁ ≡ cleared table_numbers t₂
unfolding cleared
open_one t t₁ t₂ p q = rw (p.long, q.long, p.later, q.later) refl

-- rows counted and the table with them; or a refusal, its place and the table that it leaves, its first 3,072 numbers taken for zeros
abbrev pub left_of : Read ℕ → List ℕ → Read ℕ × List ℕ
left_of (Ok n) t = (Ok n, t)
left_of (Err f) t = (Err f, cleared table_numbers t)

counted_one : {X : Type 0} (rows : X → List Row) (m n : ℕ) (t : List ℕ) (o : Contents X Fault) (r r' : Read ℕ) (t₁ t₂ : List ℕ) → CountedInto rows m n t o r t₁ → CountedInto rows m n t o r' t₂ → left_of r t₁ ≡ left_of r' t₂
counted_one rows m n t (is x) r r' t₁ t₂ p q = rw (p.0, q.0, p.1, q.1) refl
counted_one rows m n t (isnt f) r r' t₁ t₂ p q = rw (p.0, q.0, open_one t t₁ t₂ p.2 q.2) refl

-- and how many rows are counted then, which a refusal leaves as they were
count_one : {X : Type 0} (rows : X → List Row) (m n : ℕ) (t : List ℕ) (o : Contents X Fault) (r r' : Read (Unit {0})) (k k' : ℕ) (t₁ t₂ : List ℕ)
    → CountedInto rows m n t o (counted k r) t₁ → IfErr r (λ _. k ≡ n) → CountedInto rows m n t o (counted k' r') t₂ → IfErr r' (λ _. k' ≡ n) → k ≡ k'
count_one rows m n t o (Err f) (Err f') k k' t₁ t₂ p a q b = one_reply a b
count_one rows m n t (is x) (Ok u) (Ok u') k k' t₁ t₂ p a q b = let e : ◌≡◌ {A = Read ℕ} (Ok k) (Ok k') = one_reply p.0 q.0 in cc
count_one rows m n t (is x) (Ok u) (Err f) k k' t₁ t₂ p a q b = let z : ◌≡◌ {A = ℕ} 0 1 = cc in absurd (omega arith)
count_one rows m n t (is x) (Err f) (Ok u) k k' t₁ t₂ p a q b = let z : ◌≡◌ {A = ℕ} 0 1 = cc in absurd (omega arith)
count_one rows m n t (isnt g) (Ok u) r' k k' t₁ t₂ p a q b = let z : ◌≡◌ {A = ℕ} 0 1 = cc in absurd (omega arith)
count_one rows m n t (isnt g) (Err f) (Ok u) k k' t₁ t₂ p a q b = let z : ◌≡◌ {A = ℕ} 0 1 = cc in absurd (omega arith)

-- the same of one choice, which says its end too
abbrev pub left_in : Taken ℕ → List ℕ → Taken ℕ × List ℕ
left_in (Ok (n, end)) t = (Ok (n, end), t)
left_in (Err f) t = (Err f, cleared table_numbers t)

chosen_one : (a : ℕ) (s : List ℕ) (n : ℕ) (t : List ℕ) (o : Part Choice Fault) (r r' : Taken ℕ) (t₁ t₂ : List ℕ) → ChosenInto a s n t o r t₁ → ChosenInto a s n t o r' t₂ → left_in r t₁ ≡ left_in r' t₂
chosen_one a s n t (part c rest) r r' t₁ t₂ p q = rw (p.answer, q.answer, p.table, q.table, end_one s p.end q.end p.inside q.inside (sym p.over ∙ q.over)) refl
chosen_one a s n t (nopart f) r r' t₁ t₂ p q = rw (p.0, q.0, open_one t t₁ t₂ p.2 q.2) refl

choice_count_one : (a : ℕ) (s : List ℕ) (n : ℕ) (t : List ℕ) (o : Part Choice Fault) (r r' : Read ℕ) (k k' : ℕ) (t₁ t₂ : List ℕ)
    → ChosenInto a s n t o (chosen k r) t₁ → IfErr r (λ _. k ≡ n) → ChosenInto a s n t o (chosen k' r') t₂ → IfErr r' (λ _. k' ≡ n) → k ≡ k'
choice_count_one a s n t o (Err f) (Err f') k k' t₁ t₂ p x q y = one_reply x y
choice_count_one a s n t (part c rest) (Ok e) (Ok e') k k' t₁ t₂ p x q y =
    let i : ◌≡◌ {A = Taken ℕ} (Ok (k, e)) (Ok (n + length (choice_rows a c), p.end)) = p.answer in
    let j : ◌≡◌ {A = Taken ℕ} (Ok (k', e')) (Ok (n + length (choice_rows a c), q.end)) = q.answer in
    let v : ◌≡◌ {A = ℕ × ℕ} (k, e) (n + length (choice_rows a c), p.end) = cc in
    let w : ◌≡◌ {A = ℕ × ℕ} (k', e') (n + length (choice_rows a c), q.end) = cc in
    one_reply (ap (λ (z : ℕ × ℕ). z.0) v) (ap (λ (z : ℕ × ℕ). z.0) w)
choice_count_one a s n t (part c rest) (Ok e) (Err f) k k' t₁ t₂ p x q y = let w = q.answer in let z : ◌≡◌ {A = ℕ} 0 1 = cc in absurd (omega arith)
choice_count_one a s n t (part c rest) (Err f) (Ok e) k k' t₁ t₂ p x q y = let w = p.answer in let z : ◌≡◌ {A = ℕ} 0 1 = cc in absurd (omega arith)
choice_count_one a s n t (nopart g) (Ok e) r' k k' t₁ t₂ p x q y = let w = p.0 in let z : ◌≡◌ {A = ℕ} 0 1 = cc in absurd (omega arith)
choice_count_one a s n t (nopart g) (Err f) (Ok e) k k' t₁ t₂ p x q y = let w = q.0 in let z : ◌≡◌ {A = ℕ} 0 1 = cc in absurd (omega arith)

-- addresses::element
pub element_one_reply : OneReply (Typed (of_element.r).is.Ok element.Post) (λ κs r s. r)
element_one_reply κs a r r' s s' p q = found_one a.1.0.now a.0 r r' (fit κs r p.0) (fit κs r' q.0) (one_reply p.1.0 q.1.0) p.1.1 q.1.1

-- blocks::read, an exception: after a refusal the first 3,072 numbers of the table are open
pub blocks_read_one_reply : OneReply blocks_read.Post (λ κs r s. left_of r s.1.0.now)
blocks_read_one_reply κs a r r' s s' p q = counted_one blocks_rows (length a.0.now) 0 a.1.0.now (read_blocks a.0.now) r r' s.1.0.now s'.1.0.now p q

-- choices::read, an exception: after a refusal the first 3,072 numbers of the table are open
pub choices_read_one_reply : OneReply choices_read.Post (λ κs r s. left_in (chosen s.1.1.0.now.count r) s.1.1.0.now.table.now)
choices_read_one_reply κs a r r' s s' p q =
    chosen_one (space_number a.0) a.1.0.now a.1.1.0.now.count a.1.1.0.now.table.now (choice_at a.0 a.1.1.0.now.count a.1.0.now) (chosen s.1.1.0.now.count r) (chosen s'.1.1.0.now.count r') s.1.1.0.now.table.now s'.1.1.0.now.table.now p.1.0 q.1.0

-- the rows that are counted after it are no exception
pub choices_count_one_reply : OneReply choices_read.Post (λ κs r s. s.1.1.0.now.count)
choices_count_one_reply κs a r r' s s' p q =
    choice_count_one (space_number a.0) a.1.0.now a.1.1.0.now.count a.1.1.0.now.table.now (choice_at a.0 a.1.1.0.now.count a.1.0.now) r r' s.1.1.0.now.count s'.1.1.0.now.count s.1.1.0.now.table.now s'.1.1.0.now.table.now p.1.0 p.1.1 q.1.0 q.1.1

-- elements::Space: `u64::from`
pub number_one_reply : OneReply number.Post (λ κs r s. r)
number_one_reply κs a r r' s s' p q = one_reply p q

-- elements::read, an exception: after a refusal the first 3,072 numbers of the table are open
pub elements_read_one_reply : OneReply elements_read.Post (λ κs r s. left_of (counted s.1.1.0.now.count r) s.1.1.0.now.table.now)
elements_read_one_reply κs a r r' s s' p q =
    counted_one (listed_rows (space_number a.0)) (length a.1.0.now) a.1.1.0.now.count a.1.1.0.now.table.now (elements_of a.0 a.1.1.0.now.count a.1.0.now) (counted s.1.1.0.now.count r) (counted s'.1.1.0.now.count r') s.1.1.0.now.table.now s'.1.1.0.now.table.now p.1.0 q.1.0

pub elements_count_one_reply : OneReply elements_read.Post (λ κs r s. s.1.1.0.now.count)
elements_count_one_reply κs a r r' s s' p q =
    count_one (listed_rows (space_number a.0)) (length a.1.0.now) a.1.1.0.now.count a.1.1.0.now.table.now (elements_of a.0 a.1.1.0.now.count a.1.0.now) r r' s.1.1.0.now.count s'.1.1.0.now.count s.1.1.0.now.table.now s'.1.1.0.now.table.now p.1.0 p.1.1 q.1.0 q.1.1

-- identifiers::read, an exception: after a refusal the first 3,072 numbers of the table are open
pub identifiers_read_one_reply : OneReply identifiers_read.Post (λ κs r s. left_of r s.1.1.0.now)
identifiers_read_one_reply κs a r r' s s' p q = counted_one identifiers_rows (length a.0.now) a.1.0 a.1.1.0.now (read_identifiers a.1.0 a.0.now) r r' s.1.1.0.now s'.1.1.0.now p q

-- ids::row
pub row_one_reply : (n : ℕ) (f : Fits w64 n) → OneReply (row.Post n f) (λ κs r s. r)
row_one_reply n f κs a r r' s s' p q = one_reply p q

-- of AS numbers
pub as_row_one_reply : OneReply (row.Post as_numbers as_fits) (λ κs r s. r)
as_row_one_reply = row_one_reply as_numbers as_fits

-- of routing domain identifiers
pub rdi_row_one_reply : OneReply (row.Post routing_domains rdi_fits) (λ κs r s. r)
rdi_row_one_reply = row_one_reply routing_domains rdi_fits

-- ids::range
pub range_one_reply : (n : ℕ) (f : Fits w64 n) → OneReply (range.Post n f) (λ κs r s. r)
range_one_reply n f κs a r r' s s' p q = one_reply p q

-- of AS numbers
pub as_range_one_reply : OneReply (range.Post as_numbers as_fits) (λ κs r s. r)
as_range_one_reply = range_one_reply as_numbers as_fits

-- of routing domain identifiers
pub rdi_range_one_reply : OneReply (range.Post routing_domains rdi_fits) (λ κs r s. r)
rdi_range_one_reply = range_one_reply routing_domains rdi_fits

-- ids::element
pub id_element_one_reply : (n : ℕ) (f : Fits w64 n) → OneReply (Typed (of_id.r n f).is.Ok (id_element.Post n f)) (λ κs r s. r)
id_element_one_reply n f κs a r r' s s' p q = found_one a.0.now n r r' (fit_id n f κs r p.0) (fit_id n f κs r' q.0) (one_reply p.1.0 q.1.0) p.1.1 q.1.1

-- of AS numbers
pub as_element_one_reply : OneReply (Typed (of_id.r as_numbers as_fits).is.Ok (id_element.Post as_numbers as_fits)) (λ κs r s. r)
as_element_one_reply = id_element_one_reply as_numbers as_fits

-- of routing domain identifiers
pub rdi_element_one_reply : OneReply (Typed (of_id.r routing_domains rdi_fits).is.Ok (id_element.Post routing_domains rdi_fits)) (λ κs r s. r)
rdi_element_one_reply = id_element_one_reply routing_domains rdi_fits

-- briefs::is_brief
pub is_brief_one_reply : OneReply is_brief.Post (λ κs r s. r)
is_brief_one_reply κs a r r' s s' p q = one_reply p q

-- an octet as a wider number: the library's `u32::from`, whose own promise this is
pub wide_one_reply : OneReply wide.Post (λ κs r s. r)
wide_one_reply κs a r r' s s' p q = one_reply p q

-- parts::has_octets
pub has_octets_one_reply : OneReply has_octets.Post (λ κs r s. r)
has_octets_one_reply κs a r r' s s' p q = one_reply p q

-- parts::fault
pub fault_one_reply : OneReply {B = List ℕ × (ℕ × ℕ) × List ℕ} fault.Post (λ κs r s. (r.now, r.ref_ptr, s.1.1.0.now))
fault_one_reply κs a r r' s s' p q = (λ i. (one_reply p.0 q.0 i, one_reply p.1.0 q.1.0 i, one_reply p.1.1 q.1.1 i))

-- readings::naming
pub naming_one_reply : OneReply naming.Post (λ κs r s. r)
naming_one_reply κs a r r' s s' p q = one_reply p q

-- readings::step_ip
pub step_ip_one_reply : OneReply {B = Left} step_ip.Post (λ κs r s. (r, s.1.0.now))
step_ip_one_reply κs a r r' s s' p q = one_reply p.0 q.0

-- readings::step_as
pub step_as_one_reply : OneReply {B = Left} step_as.Post (λ κs r s. (r, s.1.1.0.now))
step_as_one_reply κs a r r' s s' p q = one_reply p.0 q.0

-- readings::read_ip
pub read_ip_one_reply : OneReply {B = Left} read_ip.Post (λ κs r s. (r, s.1.0.now))
read_ip_one_reply κs a r r' s s' p q = one_reply p q

-- readings::read_as
pub read_as_one_reply : OneReply {B = Left} read_as.Post (λ κs r s. (r, s.1.0.now))
read_as_one_reply κs a r r' s s' p q = one_reply p q

-- readings::step_both
pub step_both_one_reply : OneReply {B = Left} step_both.Post (λ κs r s. (r, s.1.1.0.now))
step_both_one_reply κs a r r' s s' p q = one_reply p.0 q.0

-- readings::read_both
pub read_both_one_reply : OneReply {B = Left} read_both.Post (λ κs r s. (r, s.1.1.0.now))
read_both_one_reply κs a r r' s s' p q = one_reply p.0 q.0
