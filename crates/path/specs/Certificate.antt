-- One certificate's check as document 01 orders its steps: "IP value, AS value, 13 for IP, 13 for AS, 14 by space, 11, 15". A definition that runs.
use Rattle.std.specs.Prelude.{ℕ, List, [], ◌++◌, Bool, true, false, length, ltb, eqb, Ok, Err, Option, Some, None}
use Rattle.number.specs.Tests.{pick}
use Rattle.number.specs.declared.refusal.Refusal.TheVariants as refusal
use Rattle.table.specs.Sizes.{max_rows, table_numbers}
use Rattle.table.specs.Rows.{Row, rows_in, with_rows, cleared}
use Rattle.der.specs.Parts.{Contents, is, isnt}
use Rattle.values.specs.Limits.{ip_extension, as_extension, max_octets}
use Rattle.values.specs.declared.faults.Fault.{Fault}
use Rattle.values.specs.Tables.{ip_rows, as_rows}
use Rattle.values.specs.Readings.{naming}
use Rattle.values.specs.declared.readings.Refused.{Refused}
use Rattle.path.specs.Walk.{Result, covered, missing, walk}
use Rattle.path.specs.Inherit.{Spaces, all, lacks, lacking, resolved}
use Rattle.path.specs.Replies.{fault_at, extension_of, Reply}
use Rattle.path.specs.declared.inherits.Uninherited.{Uninherited}
use Rattle.path.specs.declared.inherits.Uninherited.TheVariants as why
use Rattle.path.specs.declared.certificates.Above as code

-- what the certificates above leave for the next one: how many they are; of the last of them, the issuer, the rows after inheritance and which extensions it carries
pub record Above : Type 0 where
  pub certificates : ℕ
  pub rows : List Row
  pub ip : Bool
  pub ids : Bool

-- "certificates .. the anchor is number 0": no issuer, so nothing to inherit, and number 13 is "never at the anchor"
abbrev pub anchor : Above
anchor = record { certificates = 0; rows = []; ip = true; ids = true }

-- a step gives something to the next, or a refusal
abbrev pub Step : Type 0 → Type 0
Step A = Contents A Refused

abbrev pub onward : {A B : Type 0} → Step A → (A → Step B) → Step B
onward (is a) next = next a
onward (isnt f) next = isnt f

-- "length 0 means absent"
abbrev pub carried : List ℕ → Bool
carried v = pick (eqb (length v) 0) false true

-- IP VALUE, AS VALUE: the rows of a value of certificate k; "An absent extension holds nothing". "value .. above 32,768"
abbrev pub blamed : ℕ → ℕ → Contents (List Row) Fault → Step (List Row)
blamed k extension (is rows) = is rows
blamed k extension (isnt f) = isnt (naming f.refusal k extension f.place)

abbrev pub value_step : ℕ → ℕ → List ℕ → Contents (List Row) Fault → Step (List Row)
value_step k extension v rows =
    pick (carried v)
    (pick (ltb max_octets (length v)) (isnt (fault_at refusal.ValueSize k extension 0 0)) (blamed k extension rows))
    (is [])

unfoldable pub ip_step : ℕ → List ℕ → Step (List Row)
ip_step k v = value_step k ip_extension v (ip_rows v)

-- "The AS value's rows are counted on from the IP rows."
unfoldable pub as_step : ℕ → ℕ → List ℕ → Step (List Row)
as_step k n v = value_step k as_extension v (as_rows n v)

-- both: IP rows, then AS rows
abbrev pub read_step : ℕ → List ℕ → List ℕ → Step (List Row)
read_step k ip ids = onward (ip_step k ip) (λ rows. onward (as_step k (length rows) ids) (λ more. is (rows ++ more)))

-- 13: "extension carried, issuer has none"; the extension, IP first
unfoldable pub lacked : List ℕ → List ℕ → Bool → Bool → Option ℕ
lacked ip ids has_ip has_ids =
    pick (pick (carried ip) (pick has_ip false true) false) (Some ip_extension)
    (pick (pick (carried ids) (pick has_ids false true) false) (Some as_extension) None)

abbrev pub extensions_step : ℕ → Option ℕ → List Row → Step (List Row)
extensions_step k None rows = is rows
extensions_step k (Some extension) rows = isnt (fault_at refusal.IssuerLacks k extension 0 0)

abbrev pub presence_step : Above → List ℕ → List ℕ → List Row → Step (List Row)
presence_step a ip ids rows = extensions_step a.certificates (lacked ip ids a.ip a.ids) rows

-- 14: "inherit, and the issuer has no such space, or anchor"
abbrev pub spaces_step : ℕ → Spaces → List Row → Step (List Row)
spaces_step k all rows = is rows
spaces_step k (lacks s) rows = isnt (fault_at refusal.NothingToInherit k (extension_of s) s 0)

abbrev pub inherit_step : Above → List Row → Step (List Row)
inherit_step a rows = spaces_step a.certificates (lacking a.rows rows) (resolved a.rows rows)

-- 11: "row 513 .. after inheritance 0"
abbrev pub count_step : ℕ → List Row → Step (List Row)
count_step k rows = pick (ltb max_rows (length rows)) (isnt (fault_at refusal.RowCount k 0 0 0)) (is rows)

-- 15: "a held number is not held by the issuer"; the rows, and the pairs of the walk
abbrev pub walk_step : ℕ → List Row → Result → ℕ → Step (List Row × ℕ)
walk_step k rows covered pairs = is (rows, pairs)
walk_step k rows (missing s n) pairs = isnt (fault_at refusal.NotHeld k (extension_of s) s n)

unfoldable pub hold_step : Above → List Row → Step (List Row × ℕ)
hold_step a rows = pick (eqb a.certificates 0) (is (rows, 0)) (walk_step a.certificates rows (walk rows a.rows).result (walk rows a.rows).pairs)

-- after the values are read
unfoldable pub after_inheritance : Above → List Row → Step (List Row × ℕ)
after_inheritance a rows = onward (count_step a.certificates rows) (λ own. hold_step a own)

unfoldable pub after_presence : Above → List Row → Step (List Row × ℕ)
after_presence a rows = onward (inherit_step a rows) (λ own. after_inheritance a own)

unfoldable pub after_reading : Above → List ℕ → List ℕ → List Row → Step (List Row × ℕ)
after_reading a ip ids rows = onward (presence_step a ip ids rows) (λ own. after_presence a own)

-- ONE CERTIFICATE: its rows after inheritance and the pairs of its walk, or its refusal
unfoldable pub certificate : Above → List ℕ → List ℕ → Step (List Row × ℕ)
certificate a ip ids = onward (read_step a.certificates ip ids) (λ rows. after_reading a ip ids rows)

-- WHAT THE CODE SAYS

abbrev pub Left : Type 0
Left = Reply × List ℕ

-- the issuer's rows as the lent table has them
abbrev pub seen_above : code.Above → List ℕ → Above
seen_above a issuer = record { certificates = a.certificates; rows = rows_in a.rows issuer; ip = a.ip; ids = a.ids }

-- a refusal leaves zeros
abbrev pub refused : Refused → List ℕ → Left
refused f t = (Err f, cleared table_numbers t)

-- the reply, and the rows in the table t
abbrev pub left : Step (List Row × ℕ) → List ℕ → Left
left (is h) t = (Ok (record { rows = length h.0; pairs = h.1 }), with_rows t 0 h.0)
left (isnt f) t = refused f t

-- a reply, and the table where a refusal is followed by zeros
abbrev pub zeroed : Reply → List ℕ → Left
zeroed (Ok x) t = (Ok x, t)
zeroed (Err f) t = refused f t

-- why a certificate has no rows after inheritance, as its refusal
abbrev pub uninherited : ℕ → Uninherited → Refused
uninherited k (why.NoSpace s) = fault_at refusal.NothingToInherit k (extension_of s) s 0
uninherited k why.TooMany = fault_at refusal.RowCount k 0 0 0
uninherited k why.Short = fault_at refusal.TableShort 0 0 0 0

-- a table too short
abbrev pub short : List ℕ → Left
short t = (Err (fault_at refusal.TableShort 0 0 0 0), t)

unfoldable pub checked : Above → List ℕ → List ℕ → List ℕ → Left
checked a ip ids t = pick (ltb (length t) table_numbers) (short t) (left (certificate a ip ids) t)

-- the last step over the n rows that the table has
abbrev pub held_by : ℕ → List ℕ → Step (List Row × ℕ) → Left
held_by n t (is h) = (Ok (record { rows = n; pairs = h.1 }), t)
held_by n t (isnt f) = refused f t
