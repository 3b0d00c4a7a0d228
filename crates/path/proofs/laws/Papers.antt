-- The answers of the path check and of its parts in this paper's numbers say the answers: no two have the same numbers. Theorems. Assumes nothing.
use mathlib.Core.Path.{◌≡◌, refl}
use mathlib.Core.List.{List}
use Prim.Native.Nat.{ℕ}
use lib.ListN.{get_or}
use lib.Dec.{eqb}
use Rattle.std.specs.Prelude.{Ok, Err, Result, Some, None, Option}
use Rattle.number.specs.Tests.{pick}
use Rattle.number.specs.Refusal.{number_of}
use Rattle.number.specs.declared.refusal.Refusal.TheVariants as refusal
use Rattle.number.proofs.laws.Papers.{apart, halves_at}
use Rattle.number.proofs.laws.Refusals.{answered, refused_back}
use Rattle.values.proofs.laws.Papers.{replied, replied_back}
use Rattle.path.specs.Papers.{paper, end_paper, framing_paper, resolved_paper, inherited_paper, meet_paper, found_paper, walked_paper, lacked_paper}
use Rattle.path.specs.declared.walks.Meet.{Meet}
use Rattle.path.specs.declared.walks.Meet.TheVariants as meet
use Rattle.path.specs.declared.walks.Walked.{Walked}
use Rattle.number.specs.declared.refusal.Refusal.{Refusal}
use Rattle.path.specs.Inherit.{Inherited}
use Rattle.path.specs.declared.inherits.Uninherited.TheVariants as uninherited
use Rattle.path.specs.Replies.{Reply}
use Rattle.path.specs.declared.walks.Missing.{Missing}

pub paper_apart : (x y : Reply) → paper x ≡ paper y → x ≡ y
paper_apart = apart paper (replied done Err) (elim [ Ok x ↦ refl | Err f ↦ replied_back done Err f ])
  where
    done : ℕ → ℕ → Reply
    done rows pairs = Ok (record { rows = rows; pairs = pairs })

pub end_apart : (x y : Option ℕ) → end_paper x ≡ end_paper y → x ≡ y
end_apart = apart end_paper (λ l. answered (get_or l 0 0) (Some (get_or l 1 0)) (λ r. None)) (elim [ Some place ↦ refl | None ↦ refl ])

pub framing_apart : (x y : Result ℕ Refusal) → framing_paper x ≡ framing_paper y → x ≡ y
framing_apart =
    apart framing_paper (λ l. answered (get_or l 0 0) (Ok (get_or l 1 0)) Err)
    (elim [ Ok n ↦ refl | Err r ↦ refused_back _ Err r ])

-- inheritance from its two numbers
abbrev inherited_back : ℕ → ℕ → Inherited
inherited_back n x =
    pick (eqb n 0) (Ok x)
    (pick (eqb n (number_of refusal.NothingToInherit)) (Err (uninherited.NoSpace x))
    (pick (eqb n (number_of refusal.RowCount)) (Err uninherited.TooMany) (Err uninherited.Short)))

pub inherited_apart : (x y : Inherited) → inherited_paper x ≡ inherited_paper y → x ≡ y
inherited_apart =
    apart inherited_paper (λ l. inherited_back (get_or l 0 0) (get_or l 1 0))
    (elim [ Ok n ↦ refl | Err (uninherited.NoSpace s) ↦ refl | Err uninherited.TooMany ↦ refl | Err uninherited.Short ↦ refl ])

pub resolved_apart : (x y : Inherited) → resolved_paper x ≡ resolved_paper y → x ≡ y
resolved_apart = inherited_apart

pub meet_apart : (x y : Meet) → meet_paper x ≡ meet_paper y → x ≡ y
meet_apart =
    apart meet_paper (λ l. answered (get_or l 0 0) (pick (eqb (get_or l 1 0) 1) meet.Within meet.Passed) (λ r. meet.Apart (halves_at 1 l)))
    (elim [ meet.Within ↦ refl | meet.Passed ↦ refl | meet.Apart n ↦ refl ])

-- what the walk found, from the numbers that its answer begins with
abbrev found_back : List ℕ → Option Missing
found_back l = answered (get_or l 0 0) None (λ r. Some (record { space = get_or l 1 0; value = halves_at 2 l }))

pub found_apart : (x y : Option Missing) → found_paper x ≡ found_paper y → x ≡ y
found_apart = apart found_paper found_back (elim [ None ↦ refl | Some m ↦ refl ])

pub walked_apart : (x y : Walked) → walked_paper x ≡ walked_paper y → x ≡ y
walked_apart = apart walked_paper back (λ x. again x.missing x.pairs)
  where
    back : List ℕ → Walked
    back l = record { missing = found_back l; pairs = get_or l 4 0 }

    again : (f : Option Missing) (n : ℕ) → back (walked_paper (record { missing = f; pairs = n })) ≡ record { missing = f; pairs = n }
    again None n = refl
    again (Some m) n = refl

pub lacked_apart : (x y : Option ℕ) → lacked_paper x ≡ lacked_paper y → x ≡ y
lacked_apart = apart lacked_paper (λ l. answered (get_or l 0 0) None (λ r. Some (get_or l 1 0))) (elim [ Some extension ↦ refl | None ↦ refl ])
