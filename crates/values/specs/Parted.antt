-- "a further entry hands back the octets at fault: a part of the IP or the AS value, from the place to that value's end. If both are read without refusal, or the refusal is 11, 16 or 1, it is the empty part at the start of the IP value."
use Rattle.std.specs.Prelude.{ℕ, ◌+◌, List, [], Bool, true, false, drop, eqb}
use Rattle.number.specs.Tests.{pick}
use Rattle.number.specs.declared.refusal.Refusal.{Refusal}
use Rattle.number.specs.Refusal.{number_of}
use Rattle.values.specs.Limits.{ip_extension}
use Rattle.values.specs.Readings.{read_both}
use Rattle.values.specs.Readings.{Reading}
use Rattle.std.specs.Prelude.{Ok, Err}

-- "the refusal is 11, 16 or 1": it has no octets at fault
unfoldable pub has_octets : Refusal → Bool
has_octets r = pick (eqb (number_of r) 11) false (pick (eqb (number_of r) 16) false (pick (eqb (number_of r) 1) false true))

-- what is chosen of the start of the IP value, the IP value and the AS value from a place on
abbrev pub chosen : {A : Type 0} → Reading → A → (ℕ → A) → (ℕ → A) → A
chosen (Ok n) none ip ids = none
chosen (Err f) none ip ids = pick (has_octets f.refusal) (pick (eqb f.extension ip_extension) (ip f.place) (ids f.place)) none

-- the octets
unfoldable pub fault_octets : List ℕ → List ℕ → List ℕ → List ℕ
fault_octets ip ids t = chosen (read_both ip ids t).0 [] (λ k. drop k ip) (λ k. drop k ids)

-- where they lie: in the block of which value, and at which octet of it
unfoldable pub fault_pointer : {B : Type 0} → B × ℕ → B × ℕ → List ℕ → List ℕ → List ℕ → B × ℕ
fault_pointer p q ip ids t = chosen (read_both ip ids t).0 (p.0, 0 + p.1) (λ k. (p.0, k + p.1)) (λ k. (q.0, k + q.1))
