-- A refusal and its place, in octets from the start of what was read; and what the code answers of a part.
use Rattle.std.specs.Prelude.{Result, Ok, Err, ℕ, ◌+◌}
use Rattle.number.specs.declared.refusal.Refusal.{Refusal}
use Rattle.der.specs.Parts.{Contents, is, isnt, Part, part, nopart}
pub use Rattle.values.specs.declared.faults.Fault.{Fault}

-- a refusal at the place p
abbrev pub at : ℕ → Refusal → Fault
at p r = record { refusal = r; place = p }

-- the same refusal where k octets stand before what was read: "Place counts octets from the start of the value read."
abbrev pub later : ℕ → Fault → Fault
later k f = at (k + f.place) f.refusal

-- what was read k octets further on
abbrev pub moved : {X : Type 0} → ℕ → Contents X Fault → Contents X Fault
moved k (is x) = is x
moved k (isnt f) = isnt (later k f)

abbrev pub moved_part : {X : Type 0} → ℕ → Part X Fault → Part X Fault
moved_part k (part x rest) = part x rest
moved_part k (nopart f) = nopart (later k f)

-- what was read of some octets; or a refusal and its place in them
abbrev pub Read : Type 0 → Type 0
Read X = Result X Fault

-- what some octets begin with, and how many of them it took; or a refusal and its place in them
abbrev pub Taken : Type 0 → Type 0
Taken X = Result (X × ℕ) Fault

-- the same where k octets stand before
abbrev pub read_after : {X : Type 0} → ℕ → Read X → Read X
read_after k (Ok x) = Ok x
read_after k (Err f) = Err (later k f)
