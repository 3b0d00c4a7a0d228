-- The answers of the readers and of their parts in this paper's numbers say the answers: no two have the same numbers. Theorems. Assumes nothing.
--     replied, replied_back    a reply from its nine numbers; a refusal is had again so (the writer's and the path check's too)
--     placed                   an answer of a part from its numbers: its values l, or a refusal and its place
--     NAME-apart               for each enum of this crate
use mathlib.Core.Path.{◌≡◌, refl}
use mathlib.Core.List.{List}
use Prim.Native.Nat.{ℕ, ◌+◌}
use lib.ListN.{get_or, drop, length}
use lib.Dec.{eqb}
use Rattle.number.specs.Tests.{pick}
use Rattle.number.specs.declared.refusal.Refusal.{Refusal}
use Rattle.number.proofs.laws.Papers.{apart, halves_at}
use Rattle.number.proofs.laws.Refusals.{answered, refused_back}
use Rattle.table.proofs.laws.Papers.{row_back}
use Rattle.values.specs.Papers.{refused, paper, found_paper, bits_at_paper, bounds_paper, bounds_at_paper, ranged_paper, listed_paper, integer_at_paper, pair_paper, pair_at_paper, space_of_paper, space_at_paper, family_paper, chosen_paper, counted_paper, pushed_paper, admitted_paper, brief_bits_paper, brief_row_paper, brief_number_paper, brief_pair_paper}
use Rattle.values.specs.declared.brief_addresses.Brief.{Brief}
use Rattle.values.specs.declared.brief_addresses.Span.{Span}
use Rattle.values.specs.declared.readings.Refused.{Refused}
use Rattle.values.specs.declared.addresses.Start as begun
use Rattle.table.specs.declared.rows.Row as code
use Rattle.values.specs.Faults.{Fault, at, Read, Taken}
use Rattle.std.specs.Prelude.{Result, Ok, Err, Option, Some, None}
use Rattle.values.specs.Readings.{Reading}

-- THE REPLIES

-- the refusal r with the other numbers of a reply
abbrev fault : List ℕ → Refusal → Refused
fault l r = record { refusal = r; certificate = get_or l 1 0; extension = get_or l 2 0; place = get_or l 3 0; space = get_or l 4 0; value = record { upper = get_or l 5 0; lower = get_or l 6 0 } }

abbrev pub replied : {A : Type 0} → (ℕ → ℕ → A) → (Refused → A) → List ℕ → A
replied fine bad l = answered (get_or l 0 0) (fine (get_or l 7 0) (get_or l 8 0)) (λ r. bad (fault l r))

pub replied_back : {A : Type 0} (fine : ℕ → ℕ → A) (bad : Refused → A) (f : Refused) → replied fine bad (refused f) ≡ bad f
replied_back fine bad f = refused_back (fine 0 0) (λ r. bad (fault (refused f) r)) f.refusal

pub paper_apart : (x y : Reading) → paper x ≡ paper y → x ≡ y
paper_apart = apart paper (replied (λ n k. Ok n) Err) (elim [ Ok n ↦ refl | Err f ↦ replied_back (λ n k. Ok n) Err f ])

-- THE PARTS

abbrev placed : {A : Type 0} → (List ℕ → A) → (Fault → A) → List ℕ → A
placed fine bad l = answered (get_or l 0 0) (fine l) (λ r. bad (at (get_or l 1 0) r))

-- the bits that begin at place k of the numbers
abbrev start_at : ℕ → List ℕ → begun.Start
start_at k l = record { bits = get_or l k 0; address = halves_at (k + 1) l }

pub found_apart : (x y : Taken code.Row) → found_paper x ≡ found_paper y → x ≡ y
found_apart = apart found_paper (placed (λ l. Ok (row_back (drop 2 l), get_or l 1 0)) Err) (elim [ Ok (row, end) ↦ refl | Err f ↦ refused_back _ (λ r. Err (at f.place r)) f.refusal ])

pub bits_at_apart : (x y : Taken begun.Start) → bits_at_paper x ≡ bits_at_paper y → x ≡ y
bits_at_apart = apart bits_at_paper (placed (λ l. Ok (start_at 1 l, get_or l 4 0)) Err) (elim [ Ok (b, end) ↦ refl | Err f ↦ refused_back _ (λ r. Err (at f.place r)) f.refusal ])

pub bounds_apart : (x y : Read (begun.Start × begun.Start)) → bounds_paper x ≡ bounds_paper y → x ≡ y
bounds_apart = apart bounds_paper (placed (λ l. Ok (start_at 1 l, start_at 4 l)) Err) (elim [ Ok (b, c) ↦ refl | Err f ↦ refused_back _ (λ r. Err (at f.place r)) f.refusal ])

pub bounds_at_apart : (x y : Taken (begun.Start × begun.Start)) → bounds_at_paper x ≡ bounds_at_paper y → x ≡ y
bounds_at_apart = apart bounds_at_paper (placed (λ l. Ok ((start_at 1 l, start_at 4 l), get_or l 7 0)) Err) (elim [ Ok ((b, c), end) ↦ refl | Err f ↦ refused_back _ (λ r. Err (at f.place r)) f.refusal ])

pub ranged_apart : (x y : Option code.Row) → ranged_paper x ≡ ranged_paper y → x ≡ y
ranged_apart = apart ranged_paper (placed (λ l. Some (row_back (drop 1 l))) (λ f. None)) (elim [ Some row ↦ refl | None ↦ refl ])

pub listed_apart : (x y : Option code.Row) → listed_paper x ≡ listed_paper y → x ≡ y
listed_apart = apart listed_paper (placed (λ l. Some (row_back (drop 1 l))) (λ f. None)) (elim [ Some row ↦ refl | None ↦ refl ])

pub integer_at_apart : (x y : Taken ℕ) → integer_at_paper x ≡ integer_at_paper y → x ≡ y
integer_at_apart = apart integer_at_paper (placed (λ l. Ok (get_or l 1 0, get_or l 2 0)) Err) (elim [ Ok (x, end) ↦ refl | Err f ↦ refused_back _ (λ r. Err (at f.place r)) f.refusal ])

pub pair_apart : (x y : Read (ℕ × ℕ)) → pair_paper x ≡ pair_paper y → x ≡ y
pair_apart = apart pair_paper (placed (λ l. Ok (get_or l 1 0, get_or l 2 0)) Err) (elim [ Ok (low, high) ↦ refl | Err f ↦ refused_back _ (λ r. Err (at f.place r)) f.refusal ])

pub pair_at_apart : (x y : Taken (ℕ × ℕ)) → pair_at_paper x ≡ pair_at_paper y → x ≡ y
pair_at_apart = apart pair_at_paper (placed (λ l. Ok ((get_or l 1 0, get_or l 2 0), get_or l 3 0)) Err) (elim [ Ok ((low, high), end) ↦ refl | Err f ↦ refused_back _ (λ r. Err (at f.place r)) f.refusal ])

pub space_of_apart : (x y : Result ℕ Refusal) → space_of_paper x ≡ space_of_paper y → x ≡ y
space_of_apart = apart space_of_paper (λ l. answered (get_or l 0 0) (Ok (get_or l 1 0)) Err) (elim [ Ok space ↦ refl | Err r ↦ refused_back _ Err r ])

pub space_at_apart : (x y : Taken ℕ) → space_at_paper x ≡ space_at_paper y → x ≡ y
space_at_apart = apart space_at_paper (placed (λ l. Ok (get_or l 1 0, get_or l 2 0)) Err) (elim [ Ok (space, end) ↦ refl | Err f ↦ refused_back _ (λ r. Err (at f.place r)) f.refusal ])

pub family_apart : (x y : Read (ℕ × ℕ)) → family_paper x ≡ family_paper y → x ≡ y
family_apart = apart family_paper (placed (λ l. Ok (get_or l 1 0, get_or l 2 0)) Err) (elim [ Ok (space, n) ↦ refl | Err f ↦ refused_back _ (λ r. Err (at f.place r)) f.refusal ])

pub chosen_apart : (x y : Taken ℕ) → chosen_paper x ≡ chosen_paper y → x ≡ y
chosen_apart = apart chosen_paper (placed (λ l. Ok (get_or l 1 0, get_or l 2 0)) Err) (elim [ Ok (n, end) ↦ refl | Err f ↦ refused_back _ (λ r. Err (at f.place r)) f.refusal ])

pub counted_apart : (x y : Read ℕ) → counted_paper x ≡ counted_paper y → x ≡ y
counted_apart = apart counted_paper (placed (λ l. Ok (get_or l 1 0)) Err) (elim [ Ok n ↦ refl | Err f ↦ refused_back _ (λ r. Err (at f.place r)) f.refusal ])

-- THE STEPS OF THE CODE

pub pushed_apart : (x y : Result (Unit {0}) Refusal) → pushed_paper x ≡ pushed_paper y → x ≡ y
pushed_apart = apart pushed_paper (λ l. answered (get_or l 0 0) (Ok tt) Err) (elim [ Ok u ↦ refl | Err r ↦ refused_back _ Err r ])

pub admitted_apart : (x y : Result (Unit {0}) Refused) → admitted_paper x ≡ admitted_paper y → x ≡ y
admitted_apart = apart admitted_paper (replied (λ n k. Ok tt) Err) (elim [ Ok u ↦ refl | Err f ↦ replied_back (λ n k. Ok tt) Err f ])

-- nothing, or what the numbers say
abbrev taken : {A : Type 0} → (List ℕ → A) → List ℕ → Option A
taken what l = pick (eqb (length l) 1) None (Some (what l))

pub brief_bits_apart : (x y : Option (Brief × ℕ)) → brief_bits_paper x ≡ brief_bits_paper y → x ≡ y
brief_bits_apart = apart brief_bits_paper (taken (λ l. (record { count = get_or l 2 0; bits = get_or l 3 0 }, get_or l 1 0))) (elim [ Some (b, end) ↦ refl | None ↦ refl ])

pub brief_row_apart : (x y : Option (Span × ℕ)) → brief_row_paper x ≡ brief_row_paper y → x ≡ y
brief_row_apart = apart brief_row_paper (taken (λ l. (record { low = halves_at 2 l; high = halves_at 4 l }, get_or l 1 0))) (elim [ Some (s, end) ↦ refl | None ↦ refl ])

pub brief_number_apart : (x y : Option (ℕ × ℕ)) → brief_number_paper x ≡ brief_number_paper y → x ≡ y
brief_number_apart = apart brief_number_paper (taken (λ l. (get_or l 2 0, get_or l 1 0))) (elim [ Some (x, end) ↦ refl | None ↦ refl ])

pub brief_pair_apart : (x y : Option ((ℕ × ℕ) × ℕ)) → brief_pair_paper x ≡ brief_pair_paper y → x ≡ y
brief_pair_apart = apart brief_pair_paper (taken (λ l. ((get_or l 2 0, get_or l 3 0), get_or l 1 0))) (elim [ Some ((min, max), end) ↦ refl | None ↦ refl ])
