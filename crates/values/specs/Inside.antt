-- The place of a refusal lies in the value that it names, or at its end: so a part of the value begins there.
use Rattle.std.specs.Prelude.{ℕ, ◌≤◌, ◌≡◌}
use Rattle.values.specs.Limits.{ip_extension}
use Rattle.values.specs.Readings.{Reading}
use Rattle.std.specs.Prelude.{Ok, Err}

-- an IP value of m octets; a refusal that does not name it (16) has the place 0
abbrev pub IpIn : ℕ → Reading → Type 0
IpIn m (Ok n) = Unit {0}
IpIn m (Err f) = (f.extension ≡ ip_extension → f.place ≤ m) × ((f.extension ≡ ip_extension → ⊥) → f.place ≡ 0)

-- an AS value of m octets
abbrev pub AsIn : ℕ → Reading → Type 0
AsIn m (Ok n) = Unit {0}
AsIn m (Err f) = (f.extension ≡ ip_extension → ⊥) × (f.place ≤ m)

-- an IP value of m octets and an AS value of k
abbrev pub BothIn : ℕ → ℕ → Reading → Type 0
BothIn m k (Ok n) = Unit {0}
BothIn m k (Err f) = (f.extension ≡ ip_extension → f.place ≤ m) × ((f.extension ≡ ip_extension → ⊥) → f.place ≤ k)
