-- "ASIdentifiers has [0] AS numbers, then [1] routing domain identifiers, each optional, at least one."
use Rattle.std.specs.Prelude.{ℕ, ◌+◌, ◌-◌, List, [], ◌∷◌, length, get_or, eqb}
use Rattle.number.specs.Tests.{pick}
use Rattle.number.specs.declared.refusal.Refusal.TheVariants as refusal
use Rattle.der.specs.Tags.{SEQUENCE}
use Rattle.der.specs.Parts.{Contents, is, isnt, Part, part, nopart, tagged, only}
use Rattle.values.specs.Limits.{ASNUM, RDI, as_numbers}
use Rattle.values.specs.Faults.{Fault, at, moved}
use Rattle.values.specs.Choices.{Choice, choice_at, choice_rows}
use Rattle.values.specs.declared.elements.Space.{Space}
use Rattle.values.specs.declared.elements.Space.TheVariants as space

-- a member with its tag, after n rows: it "wraps NULL or a SEQUENCE", and nothing else
unfoldable pub member_of : Space → ℕ → List ℕ → Contents Choice Fault
member_of a n = only (λ j. at j refusal.OctetsLeft) (choice_at a n)

unfoldable pub member_at : ℕ → Space → ℕ → List ℕ → Part Choice Fault
member_at tag a n = tagged (at 0) tag (λ k c. moved k (member_of a n c))

pub data Identifiers : Type 0 where
  numbers : Choice → Identifiers
  domains : Choice → Identifiers
  both : Choice → Choice → Identifiers

abbrev pub taken : (Choice → Identifiers) → Contents Choice Fault → Contents Identifiers Fault
taken f (is c) = is (f c)
taken f (isnt e) = isnt e

-- [1], and nothing after it: "any octet after [1] is 5"
unfoldable pub last_of : ℕ → List ℕ → Contents Choice Fault
last_of n = only (λ j. at j refusal.OctetsLeft) (member_at RDI space.RoutingDomains n)

-- after [0] there is nothing, or [1]: "after [0] a tag other than [1] is 3". The members had m octets
abbrev pub after : ℕ → ℕ → Part Choice Fault → Contents Identifiers Fault
after n m (nopart e) = isnt e
after n m (part c []) = is (numbers c)
after n m (part c (b ∷ rest)) = moved (m - length (b ∷ rest)) (taken (both c) (last_of (n + length (choice_rows as_numbers c)) (b ∷ rest)))

unfoldable pub first_of : ℕ → List ℕ → Contents Identifiers Fault
first_of n s = after n (length s) (member_at ASNUM space.AsNumbers n s)

unfoldable pub members_of : ℕ → List ℕ → Contents Identifiers Fault
members_of n s = pick (eqb (get_or s 0 0) ASNUM) (first_of n s) (taken domains (last_of n s))

-- "ASIdentifiers with no member" is refused at its SEQUENCE
unfoldable pub some_members : ℕ → ℕ → List ℕ → Contents Identifiers Fault
some_members n k c = pick (eqb (length c) 0) (isnt (at 0 refusal.EmptyList)) (moved k (members_of n c))

unfoldable pub read_identifiers : ℕ → List ℕ → Contents Identifiers Fault
read_identifiers n = only (λ j. at j refusal.OctetsLeft) (tagged (at 0) SEQUENCE (some_members n))
