-- Demand 3 in document 01's words: certificates with their tables, what each of them holds, when a path is right, and what is no well-framed path. (proofs/laws/Path: the check accepts exactly the right ones.)
use Rattle.std.specs.Prelude.{ℕ, ◌+◌, ◌≤◌, ◌<◌, ◌≡◌, List, [], ◌∷◌, ◌++◌, length, get_or, take}
use Rattle.number.specs.declared.refusal.Refusal.{Refusal}
use Rattle.number.specs.declared.refusal.Refusal.TheVariants as refusal
use Rattle.table.specs.Sizes.{max_rows, table_numbers}
use Rattle.table.specs.Spaces.{ip_kind, as_kind}
use Rattle.table.specs.Rows.{Row}
use Rattle.table.specs.Tables.{Allowed}
use Rattle.table.specs.Holdings.{Holds, Inherits}
use Rattle.values.specs.Limits.{ip_extension, as_extension}
use Rattle.values.specs.Encode.{encode}
use Rattle.values.specs.declared.readings.Refused.{Refused}
use Rattle.path.specs.Bundle.{least_octets, most_octets, most_certificates, bundle_of}
use Rattle.path.specs.Walk.{walk}
use Rattle.path.specs.Inherit.{resolved}
use Rattle.path.specs.Replies.{fault_at, extension_of}

-- an extension is absent, or carried with its table
pub data Extension : Type 0 where
  absent : Extension
  carries : List Row → Extension

-- a certificate: its IPAddrBlocks and its ASIdentifiers
pub record Certificate : Type 0 where
  pub ip : Extension
  pub ids : Extension

-- "An absent extension holds nothing"
abbrev pub carried_rows : Extension → List Row
carried_rows absent = []
carried_rows (carries rows) = rows

-- what it lists and inherits: IP rows, then AS rows
abbrev pub listing : Certificate → List Row
listing c = carried_rows c.ip ++ carried_rows c.ids

-- A path is a list of certificates from the anchor down. The certificates above one, its issuer first, are its line.
-- c is a certificate of the path below the line `start`, and `line` are those above it
pub data Below : List Certificate → List Certificate → Certificate → List Certificate → Type 0 where
  here : {start : List Certificate} {c : Certificate} {cs : List Certificate} → Below start (c ∷ cs) c start
  later : {start line : List Certificate} {c d : Certificate} {cs : List Certificate} → Below (d ∷ start) cs c line → Below start (d ∷ cs) c line

-- c is a certificate of the path, and `line` are those above it: none at the anchor
abbrev pub Of : List Certificate → Certificate → List Certificate → Type 0
Of path c line = Below [] path c line

-- the second line begins with a certificate above the one that the first begins with: its issuer, or one above that
pub data Higher : List Certificate → List Certificate → Type 0 where
  issuer : {c i : Certificate} {line : List Certificate} → Higher (c ∷ i ∷ line) (i ∷ line)
  further : {c i : Certificate} {line top : List Certificate} → Higher (i ∷ line) top → Higher (c ∷ i ∷ line) top

-- WHAT A CERTIFICATE HOLDS: "in a space what it lists there; where it inherits, what its issuer holds there; else nothing". The first of a line holds n of space s
pub data Held (s n : ℕ) : List Certificate → Type 0 where
  listed : {c : Certificate} {line : List Certificate} → Holds s n (listing c) → Held s n (c ∷ line)
  inherited : {c : Certificate} {line : List Certificate} → Inherits s (listing c) → Held s n line → Held s n (c ∷ line)

-- one of the rows is in the space s
pub data HasSpace (s : ℕ) : List Row → Type 0 where
  here : {r : Row} {rs : List Row} → r.space ≡ s → HasSpace s (r ∷ rs)
  there : {r : Row} {rs : List Row} → HasSpace s rs → HasSpace s (r ∷ rs)

-- the first of a line has the space s: it lists or inherits there. Above the anchor there is none
abbrev pub SpaceOf : ℕ → List Certificate → Type 0
SpaceOf s [] = ⊥
SpaceOf s (c ∷ line) = HasSpace s (listing c)

-- an extension that is carried, and the issuer's, which is not
abbrev pub Lacks : Extension → Extension → Type 0
Lacks (carries rows) absent = Unit {0}
Lacks (carries rows) (carries more) = ⊥
Lacks absent i = ⊥

-- (a) "extension carried, issuer has none (never at the anchor)": which of the two lacks, for a certificate below a line
abbrev pub LacksIp : Certificate → List Certificate → Type 0
LacksIp c [] = ⊥
LacksIp c (i ∷ line) = Lacks c.ip i.ip

abbrev pub LacksIds : Certificate → List Certificate → Type 0
LacksIds c [] = ⊥
LacksIds c (i ∷ line) = Lacks c.ids i.ids

pub record Present (c : Certificate) (line : List Certificate) : Type 0 where
  pub ip : LacksIp c line → ⊥
  pub ids : LacksIds c line → ⊥

-- (b) each inherit names a space that the issuer has; the anchor has no inherit
abbrev pub Inheriting : Certificate → List Certificate → Type 0
Inheriting c line = (s : ℕ) → Inherits s (listing c) → SpaceOf s line

-- (c) every number that the certificate holds is held by every certificate above
abbrev pub Holding : Certificate → List Certificate → Type 0
Holding c line = (s n : ℕ) (top : List Certificate) → Higher (c ∷ line) top → Held s n (c ∷ line) → Held s n top

-- THE THREE CONDITIONS of demand 3, for every certificate of a path
pub record Right (path : List Certificate) : Type 0 where
  pub present : (c : Certificate) (line : List Certificate) → Of path c line → Present c line
  pub inheriting : (c : Certificate) (line : List Certificate) → Of path c line → Inheriting c line
  pub holding : (c : Certificate) (line : List Certificate) → Of path c line → Holding c line

-- THE PREMISES

-- the rows after inheritance of the first of a line
abbrev pub rows_at : List Certificate → List Row
rows_at [] = []
rows_at (c ∷ line) = resolved (rows_at line) (listing c)

-- an extension's table is one that document 01 allows
abbrev pub Fits : ℕ → Extension → Type 0
Fits kind absent = Unit {0}
Fits kind (carries rows) = Allowed kind rows

-- "rows of one certificate: 512, inherit rows counted"
pub record Proper (c : Certificate) : Type 0 where
  pub ip : Fits ip_kind c.ip
  pub ids : Fits as_kind c.ids
  pub few : length (listing c) ≤ max_rows

-- each value is the encoding of such a table
abbrev pub value_of : ℕ → Extension → List ℕ
value_of kind absent = []
value_of kind (carries rows) = encode kind rows

abbrev pub values_of : List Certificate → List (List ℕ × List ℕ)
values_of [] = []
values_of (c ∷ cs) = (value_of ip_kind c.ip, value_of as_kind c.ids) ∷ values_of cs

abbrev pub bundle : List Certificate → List ℕ
bundle path = bundle_of (values_of path)

-- a well-framed bundle of 1 to 8 certificates, each of which document 01 allows
pub record Framed (path : List Certificate) : Type 0 where
  pub some : 0 < length path
  pub few : length path ≤ most_certificates
  pub fits : length (bundle path) ≤ most_octets
  pub proper : (c : Certificate) (line : List Certificate) → Of path c line → Proper c

-- no certificate of more than 512 rows after inheritance
abbrev pub Few : List Certificate → Type 0
Few path = (c : Certificate) (line : List Certificate) → Of path c line → length (rows_at (c ∷ line)) ≤ max_rows

-- THE COUNT OF PAIRS: "For each certificate below the anchor .. The reply sums it over the certificates"
abbrev pub pairs_at : List Certificate → ℕ
pairs_at [] = 0
pairs_at (c ∷ []) = 0
pairs_at (c ∷ i ∷ line) = pairs_at (i ∷ line) + (walk (rows_at (c ∷ i ∷ line)) (rows_at (i ∷ line))).pairs

-- at most the two row counts added, for each certificate
abbrev pub pairs_most : List Certificate → ℕ
pairs_most [] = 0
pairs_most (c ∷ []) = 0
pairs_most (c ∷ i ∷ line) = pairs_most (i ∷ line) + (length (rows_at (c ∷ i ∷ line)) + length (rows_at (i ∷ line)))

-- the last certificate of a path with those above it
abbrev pub line_of : List Certificate → List Certificate → List Certificate
line_of start [] = start
line_of start (c ∷ cs) = line_of (c ∷ start) cs

abbrev pub last : List Certificate → List Certificate
last path = line_of [] path

-- WHAT IS AT FAULT IN ONE CERTIFICATE, in document 01's order: 13 for IP, 13 for AS, 14 by space, 11, 15

-- number n of space s is smaller, space first
pub data Smaller (t m s n : ℕ) : Type 0 where
  by_space : t < s → Smaller t m s n
  by_number : t ≡ s → m < n → Smaller t m s n

-- n of space s is held by the certificate and not by its issuer, and every smaller pair that it holds is held by its issuer
pub record Missing (c : Certificate) (line : List Certificate) (s n : ℕ) : Type 0 where
  pub held : Held s n (c ∷ line)
  pub free : Held s n line → ⊥
  pub least : (t m : ℕ) → Smaller t m s n → Held t m (c ∷ line) → Held t m line

-- s is the lowest space that it inherits and that its issuer does not have
pub record NoSpace (c : Certificate) (line : List Certificate) (s : ℕ) : Type 0 where
  pub inherits : Inherits s (listing c)
  pub none : SpaceOf s line → ⊥
  pub lowest : (t : ℕ) → t < s → Inherits t (listing c) → SpaceOf t line

pub data Fault (c : Certificate) (line : List Certificate) : Refused → Type 0 where
  no_ip : LacksIp c line → Fault c line (fault_at refusal.IssuerLacks (length line) ip_extension 0 0)
  no_ids : (LacksIp c line → ⊥) → LacksIds c line → Fault c line (fault_at refusal.IssuerLacks (length line) as_extension 0 0)
  no_space : {s : ℕ} → Present c line → NoSpace c line s → Fault c line (fault_at refusal.NothingToInherit (length line) (extension_of s) s 0)
  too_many : Present c line → Inheriting c line → max_rows < length (rows_at (c ∷ line)) → Fault c line (fault_at refusal.RowCount (length line) 0 0 0)
  not_held : {s n : ℕ} → 0 < length line → Present c line → Inheriting c line → length (rows_at (c ∷ line)) ≤ max_rows → Missing c line s n → Fault c line (fault_at refusal.NotHeld (length line) (extension_of s) s n)

-- the first certificate at fault, all above it being right
pub record First (path : List Certificate) (f : Refused) : Type 0 where
  pub above : List Certificate
  pub certificate : Certificate
  pub below : List Certificate
  pub is : path ≡ above ++ (certificate ∷ below)
  pub right : Right above
  pub few : Few above
  pub fault : Fault certificate (last above) f

-- OUTSIDE THE PREMISES: "Path order: 16, length 18, 17, 12, framing 18". (proofs/laws/Outside: these come exactly then.)

-- "lent tables of the path check: two, each at least 3,072 numbers"
pub record Lent (first second : List ℕ) : Type 0 where
  pub one : table_numbers ≤ length first
  pub two : table_numbers ≤ length second

-- "bundle: 6 to 65,536 octets"
pub record Sized (b : List ℕ) : Type 0 where
  pub least : least_octets ≤ length b
  pub most : length b ≤ most_octets

-- "`RCH` in ASCII, 16-bit version 0001": the first five octets
abbrev pub Marked : List ℕ → Type 0
Marked b = take 5 b ≡ 0x52 ∷ 0x43 ∷ 0x48 ∷ 0 ∷ 1 ∷ []

-- "one octet count", the sixth: "certificates in a path: 1 to 8"
pub record Counted (b : List ℕ) : Type 0 where
  pub some : 0 < get_or b 5 0
  pub few : get_or b 5 0 ≤ most_certificates

-- it is the writing of certificates, two values each, as many as its count says: not "cut short", and no "octets over"
pub record Written (b : List ℕ) : Type 0 where
  pub certificates : List (List ℕ × List ℕ)
  pub is : b ≡ bundle_of certificates

-- "18: bundle length outside limits", "17: mark or version differs", "12: count 0 or above 8", "18: .. cut short, or octets over"
pub data Unframed (b : List ℕ) : Refusal → Type 0 where
  size : (Sized b → ⊥) → Unframed b refusal.Framing
  mark : Sized b → (Marked b → ⊥) → Unframed b refusal.Mark
  count : Sized b → Marked b → (Counted b → ⊥) → Unframed b refusal.CertificateCount
  frame : Sized b → Marked b → Counted b → (Written b → ⊥) → Unframed b refusal.Framing

-- "16: a lent table too short"
pub data Outside (b first second : List ℕ) : Refusal → Type 0 where
  short : (Lent first second → ⊥) → Outside b first second refusal.TableShort
  unframed : {r : Refusal} → Lent first second → Unframed b r → Outside b first second r
