-- Ways to make a reader of smaller ones. A reader of contents takes all of a list; a reader of a part takes the start of one and gives the rest.
-- A refusal is of a type E that nothing here looks into. A reader that comes after something is told how many octets that took, so that it can say its place.
use Rattle.std.specs.Prelude.{ℕ, ◌+◌, ◌-◌, List, [], ◌∷◌, length, get_or, eqb}
use Rattle.number.specs.Tests.{pick}
use Rattle.der.specs.Walk.{Step, got, no, Done, done, stop, dec_all}
use Rattle.number.specs.declared.refusal.Refusal.{Refusal}
use Rattle.number.specs.declared.refusal.Refusal.TheVariants as refusal
use Rattle.der.specs.Head.{Head, found, fault, head}

pub data Contents (X E : Type 0) : Type 0 where
  is : X → Contents X E
  isnt : E → Contents X E

pub data Part (X E : Type 0) : Type 0 where
  part : X → List ℕ → Part X E
  nopart : E → Part X E

-- an element with the tag t, by its contents; `bad` is a refusal at its tag
abbrev pub closed : {X E : Type 0} → Contents X E → List ℕ → Part X E
closed (is x) rest = part x rest
closed (isnt e) rest = nopart e

abbrev pub opened : {X E : Type 0} → (Refusal → E) → (ℕ → List ℕ → Contents X E) → ℕ → Head → Part X E
opened bad inner n fault = nopart (bad refusal.Element)
opened bad inner n (found c rest) = closed (inner (n - (length c + length rest)) c) rest

-- "At one element: tag, length, contents": the tag is judged before the length, and one that is missing is refusal 2
unfoldable pub tagged : {X E : Type 0} → (Refusal → E) → ℕ → (ℕ → List ℕ → Contents X E) → List ℕ → Part X E
tagged bad t inner s =
    pick (eqb (length s) 0) (nopart (bad refusal.Element))
    (pick (eqb (get_or s 0 0) t) (opened bad inner (length s) (head s)) (nopart (bad refusal.Tag)))

-- one and then another: how the second is read may turn on the first
abbrev pub second : {X Y E : Type 0} → X → Part Y E → Part (X × Y) E
second x (part y rest) = part (x, y) rest
second x (nopart e) = nopart e

abbrev pub first : {X Y E : Type 0} → ℕ → Part X E → (ℕ → X → List ℕ → Part Y E) → Part (X × Y) E
first n (part x rest) dec = second x (dec (n - length rest) x rest)
first n (nopart e) dec = nopart e

unfoldable pub two : {X Y E : Type 0} → (List ℕ → Part X E) → (ℕ → X → List ℕ → Part Y E) → List ℕ → Part (X × Y) E
two decX decY s = first (length s) (decX s) decY

-- nothing after it
abbrev pub ended : {X E : Type 0} → (ℕ → E) → ℕ → Part X E → Contents X E
ended over n (part x []) = is x
ended over n (part x (b ∷ rest)) = isnt (over (n - length (b ∷ rest)))
ended over n (nopart e) = isnt e

unfoldable pub only : {X E : Type 0} → (ℕ → E) → (List ℕ → Part X E) → List ℕ → Contents X E
only over dec s = ended over (length s) (dec s)

-- what was read, seen as something else, or refused
abbrev pub sifted : {X Y E : Type 0} → (X → Contents Y E) → Part X E → Part Y E
sifted f (part x rest) = closed (f x) rest
sifted f (nopart e) = nopart e

-- a state: what was read leads to the next one, or is refused
abbrev pub arrived : {X S E : Type 0} → X → Contents S E → List ℕ → Step X S E
arrived x (is σ) rest = got x σ rest
arrived x (isnt e) rest = no e

abbrev pub entered : {X S E : Type 0} → (X → ℕ → Contents S E) → ℕ → Part X E → Step X S E
entered admit n (part x rest) = arrived x (admit x (n - length rest)) rest
entered admit n (nopart e) = no e

unfoldable pub admitted : {X S E : Type 0} → (S → List ℕ → Part X E) → (S → X → ℕ → Contents S E) → S → List ℕ → Step X S E
admitted dec admit σ s = entered (admit σ) (length s) (dec σ s)

-- all that a walk has read
abbrev pub gathered : {X S E : Type 0} → Done (S × List X) E → Contents (List X) E
gathered (stop e) = isnt e
gathered (done d) = is d.1

unfoldable pub list_of : {X S E : Type 0} → (S → List ℕ → Step X S E) → S → List ℕ → Contents (List X) E
list_of step σ c = gathered (dec_all step σ c)

-- and there is something
abbrev pub filled : {X E : Type 0} → E → Contents (List X) E → Contents (List X) E
filled none (isnt e) = isnt e
filled none (is []) = isnt none
filled none (is (x ∷ xs)) = is (x ∷ xs)
