-- The answers of the path check and of its parts in this paper's numbers: of a reply all nine; of a part the number of the refusal, 0 if there is none, and the values of the case. (proofs/laws/Papers: they tell the cases apart.)
use Rattle.std.specs.Prelude.{ℕ, List, [], ◌∷◌, ◌++◌, Ok, Err, Result, Some, None, Option}
use Rattle.number.specs.Refusal.{number_of}
use Rattle.number.specs.declared.refusal.Refusal.TheVariants as refusal
use Rattle.values.specs.Papers.{refused, accepted}
use Rattle.path.specs.declared.walks.Meet.{Meet}
use Rattle.path.specs.declared.walks.Meet.TheVariants as meet
use Rattle.path.specs.declared.walks.Walked.{Walked}
use Rattle.number.specs.declared.refusal.Refusal.{Refusal}
use Rattle.path.specs.Inherit.{Inherited}
use Rattle.path.specs.declared.inherits.Uninherited.TheVariants as uninherited
use Rattle.path.specs.Replies.{Reply}
use Rattle.path.specs.declared.walks.Missing.{Missing}

-- "The reply carries the number of row pairs looked at"
abbrev pub paper : Reply → List ℕ
paper (Ok x) = accepted x.rows x.pairs
paper (Err f) = refused f

-- a value in a bundle: where it ends; or 18
abbrev pub end_paper : Option ℕ → List ℕ
end_paper (Some place) = 0 ∷ place ∷ []
end_paper None = number_of refusal.Framing ∷ 0 ∷ []

-- a bundle: its certificates; or 17, 12 or 18
abbrev pub framing_paper : Result ℕ Refusal → List ℕ
framing_paper (Ok n) = 0 ∷ n ∷ []
framing_paper (Err r) = number_of r ∷ 0 ∷ []

-- inheritance: the rows then; or 14 and the space, 11, or 16
abbrev pub inherited_paper : Inherited → List ℕ
inherited_paper (Ok n) = 0 ∷ n ∷ []
inherited_paper (Err (uninherited.NoSpace s)) = number_of refusal.NothingToInherit ∷ s ∷ []
inherited_paper (Err uninherited.TooMany) = number_of refusal.RowCount ∷ 0 ∷ []
inherited_paper (Err uninherited.Short) = number_of refusal.TableShort ∷ 0 ∷ []

-- the rows of a certificate after inheritance; or 14 and the space: the same numbers
abbrev pub resolved_paper : Inherited → List ℕ
resolved_paper = inherited_paper

-- two rows that meet: by how many rows the own side and the issuer's side go on; or 15 and the number in halves
abbrev pub meet_paper : Meet → List ℕ
meet_paper meet.Within = 0 ∷ 1 ∷ 0 ∷ []
meet_paper meet.Passed = 0 ∷ 0 ∷ 1 ∷ []
meet_paper (meet.Apart n) = number_of refusal.NotHeld ∷ n.upper ∷ n.lower ∷ []

-- what the walk found: all is held; or 15, the space and the number in halves
abbrev pub found_paper : Option Missing → List ℕ
found_paper None = 0 ∷ 0 ∷ 0 ∷ 0 ∷ []
found_paper (Some m) = number_of refusal.NotHeld ∷ m.space ∷ m.value.upper ∷ m.value.lower ∷ []

-- the walk: what it found, and the pairs looked at
abbrev pub walked_paper : Walked → List ℕ
walked_paper w = found_paper w.missing ++ w.pairs ∷ []

-- an extension that the issuer lacks: 13 and the extension; 0 if there is none
abbrev pub lacked_paper : Option ℕ → List ℕ
lacked_paper (Some extension) = number_of refusal.IssuerLacks ∷ extension ∷ []
lacked_paper None = 0 ∷ 0 ∷ []
