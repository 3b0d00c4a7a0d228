-- The path check: certificates from the anchor down, each against its issuer. "All of one certificate comes before the next." A definition that runs.
use Rattle.std.specs.Prelude.{ℕ, zero, suc, ◌+◌, ◌-◌, ◌*◌, ◌^◌, ◌≤◌, ◌<◌, ◌≡◌, List, [], ◌∷◌, ◌++◌, true, length, take, drop, ltb, Ok, Err, Result}
use Rattle.number.specs.Tests.{pick}
use Rattle.number.specs.declared.refusal.Refusal.{Refusal}
use Rattle.number.specs.declared.refusal.Refusal.TheVariants as refusal
use Rattle.table.specs.Sizes.{row_numbers, max_rows, table_numbers}
use Rattle.table.specs.Rows.{Row, rows_of, with_rows, cleared}
use Rattle.der.specs.Parts.{is, isnt}
use Rattle.path.specs.Bundle.{most_certificates, bundle_head, length_of, is_values, frame_of, certificates_in}
use Rattle.path.specs.Replies.{fault_at, Reply}
use Rattle.path.specs.Certificate.{Above, anchor, Step, onward, carried, certificate, seen_above}
use Rattle.path.specs.declared.certificates.Above as code

-- an IP value and an AS value, empty where absent
abbrev pub Values : Type 0
Values = List ℕ × List ℕ

-- a certificate with these rows after inheritance, as the next one's issuer
abbrev pub below : Above → Values → List Row → Above
below a c rows = record { certificates = suc a.certificates; rows = rows; ip = carried c.0; ids = carried c.1 }

-- THE DESCENT from the certificates above: the last certificate's rows, and the pairs so far and of each walk added
unfoldable pub descent : Above → ℕ → List Values → Step (List Row × ℕ)
descent a pairs [] = is (a.rows, pairs)
descent a pairs (c ∷ cs) = onward (certificate a c.0 c.1) (λ h. descent (below a c h.0) (pairs + h.1) cs)

-- THE PATH of a bundle: "Path order: .. length 18, 17, 12, framing 18; then per certificate". "Numbers 12 and 16 to 20 name certificate 0 and extension 0"
abbrev pub on_framing : Result ℕ Refusal → (ℕ → Step (List Row × ℕ)) → Step (List Row × ℕ)
on_framing (Err r) next = isnt (fault_at r 0 0 0 0)
on_framing (Ok n) next = next n

unfoldable pub path_of : List ℕ → Step (List Row × ℕ)
path_of b = on_framing (frame_of b) (λ n. descent anchor 0 (certificates_in n (drop bundle_head b)))

-- THE REPLY and the two tables: "the second table's first 3,072 numbers end as zero, and the first's hold the rows and then zeros (all zeros on refusal); later numbers are unchanged"
abbrev pub Left : Type 0
Left = Reply × List ℕ × List ℕ

abbrev pub tabled : List ℕ → List Row → List ℕ
tabled t rows = with_rows (cleared table_numbers t) 0 rows

abbrev pub leaves : Step (List Row × ℕ) → List ℕ → List ℕ → Left
leaves (is h) first second = (Ok (record { rows = length h.0; pairs = h.1 }), tabled first h.0, cleared table_numbers second)
leaves (isnt f) first second = (Err f, cleared table_numbers first, cleared table_numbers second)

abbrev pub bare : Refusal → Reply
bare r = Err (fault_at r 0 0 0 0)

-- "On 16 both tables are unchanged."
unfoldable pub check : List ℕ → List ℕ → List ℕ → Left
check b first second =
    pick (ltb (length first) table_numbers) (bare refusal.TableShort, first, second)
    (pick (ltb (length second) table_numbers) (bare refusal.TableShort, first, second)
    (leaves (path_of b) first second))

-- WHAT THE CODE SAYS

-- s begins with a value that is not cut short
pub record Begun (s : List ℕ) : Type 0 where
  pub inside : 2 + length_of s ≤ length s

-- a certificate with these values and n rows in its table, as the next one's issuer
abbrev pub issuer_of : code.Above → List ℕ → List ℕ → ℕ → code.Above
issuer_of a ip ids n = record { certificates = a.certificates + 1; rows = n; ip = carried ip; ids = carried ids }

-- the table t had `old` rows, and then n others were written over them: zeros in the place of what is left of the old ones; t itself where n are enough
unfoldable pub cleared_rest : ℕ → ℕ → List ℕ → List ℕ
cleared_rest n old t = take (row_numbers * n) t ++ cleared (row_numbers * (old - n)) (drop (row_numbers * n) t)

-- the table t has n rows, and then zeros
pub record Full (n : ℕ) (t : List ℕ) : Type 0 where
  pub long : table_numbers ≤ length t
  pub few : n ≤ max_rows
  pub rows : t ≡ tabled t (rows_of n t)

-- before the next certificate
pub record Descending (left : ℕ) (rest own : List ℕ) (old : ℕ) (issuer : List ℕ) (above : code.Above) (pairs : ℕ) : Type 0 where
  pub framed : is_values (2 * left) rest ≡ true
  pub ours : Full old own
  pub theirs : Full above.rows issuer
  pub numbered : above.certificates + left < 2 ^ 64
  pub counted : pairs + 2 * max_rows * left < 2 ^ 64

-- before the anchor
pub record Starting (count : ℕ) (certificates first second : List ℕ) : Type 0 where
  pub framed : is_values (2 * count) certificates ≡ true
  pub few : count ≤ most_certificates
  pub one : Full 0 first
  pub two : Full 0 second

-- the tables change roles with each certificate: with none left, the last certificate's rows are in the issuer's table
abbrev pub placed : ℕ → List Row → List ℕ → List ℕ → List ℕ × List ℕ
placed zero rows own issuer = (cleared table_numbers own, tabled issuer rows)
placed (suc k) rows own issuer = ((placed k rows issuer own).1, (placed k rows issuer own).0)

abbrev pub ends : ℕ → Step (List Row × ℕ) → List ℕ → List ℕ → Left
ends left (is h) own issuer = (Ok (record { rows = length h.0; pairs = h.1 }), (placed left h.0 own issuer).0, (placed left h.0 own issuer).1)
ends left (isnt f) own issuer = (Err f, cleared table_numbers own, cleared table_numbers issuer)

unfoldable pub descended : ℕ → List ℕ → List ℕ → List ℕ → code.Above → ℕ → Left
descended left rest own issuer above pairs = ends left (descent (seen_above above issuer) pairs (certificates_in left rest)) own issuer
