-- An answer in this paper's numbers says the answer: no two have the same numbers. Theorems. Assumes nothing.
--     apart         the general law: a definition from which the answer can be had again tells the answers apart
--     NAME_apart    for the width, for the shape of two addresses, and for the order of two numbers. Refusal has laws of its own (Refusals)
use mathlib.Core.Path.{◌≡◌, refl, sym, ap, ◌∙◌}
use mathlib.Core.List.{List, [], ◌∷◌}
use Prim.Native.Nat.{ℕ, ◌+◌}
use lib.ListN.{length, get_or}
use lib.Dec.{eqb}
use Rattle.std.specs.Prelude.{Option, Some, None}
use Rattle.number.specs.Tests.{pick}
use Rattle.number.specs.Halves.{bits}
use Rattle.number.specs.Papers.{shape_paper, order_paper, partial_order_paper}
use Rattle.std.specs.declared.cmp.Ordering.{Ordering}
use Rattle.std.specs.declared.cmp.Ordering.TheVariants as order
use Rattle.number.specs.declared.halves.Halves.{Halves}
use Rattle.number.specs.declared.halves.Width.{Width}
use Rattle.number.specs.declared.halves.Width.TheVariants as width

pub apart : {A N : Type 0} (paper : A → N) (back : N → A) → ((x : A) → back (paper x) ≡ x) → (x y : A) → paper x ≡ paper y → x ≡ y
apart paper back again x y e = sym (again x) ∙ ap back e ∙ again y

-- the two halves from number k of a list on
abbrev pub halves_at : ℕ → List ℕ → Halves
halves_at k l = record { upper = get_or l k 0; lower = get_or l (k + 1) 0 }

pub width_apart : (x y : Width) → bits x ≡ bits y → x ≡ y
width_apart = apart bits (λ n. pick (eqb n (bits width.Bits32)) width.Bits32 width.Bits128) (elim [ width.Bits32 ↦ refl | width.Bits128 ↦ refl ])

pub shape_apart : (x y : Option ℕ) → shape_paper x ≡ shape_paper y → x ≡ y
shape_apart = apart shape_paper (λ l. pick (eqb (length l) 1) None (Some (get_or l 1 0))) (elim [ Some n ↦ refl | None ↦ refl ])

-- the orders by their numbers
abbrev orders : List Ordering
orders = order.Less ∷ order.Equal ∷ order.Greater ∷ []

pub order_apart : (x y : Ordering) → order_paper x ≡ order_paper y → x ≡ y
order_apart = apart order_paper (λ l. get_or orders (get_or l 1 0) order.Less) (elim [ order.Less ↦ refl | order.Equal ↦ refl | order.Greater ↦ refl ])

pub partial_order_apart : (x y : Option Ordering) → partial_order_paper x ≡ partial_order_paper y → x ≡ y
partial_order_apart =
    apart partial_order_paper (λ l. pick (eqb (length l) 1) None (Some (get_or orders (get_or l 1 0) order.Less)))
    (elim [ Some order.Less ↦ refl | Some order.Equal ↦ refl | Some order.Greater ↦ refl | None ↦ refl ])
