-- The answers of the DER parts in this paper's numbers say the answers: no two have the same numbers. Theorems. Assumes nothing.
use mathlib.Core.Path.{◌≡◌, refl, ap}
use mathlib.Core.List.{List, [], ◌∷◌}
use Prim.Native.Nat.{ℕ, ◌-◌}
use lib.ListN.{get_or, drop}
use lib.Dec.{eqb}
use Rattle.number.specs.Tests.{pick}
use Rattle.number.specs.Halves.{bits}
use Rattle.number.specs.declared.halves.Width.{Width}
use Rattle.number.specs.declared.halves.Width.TheVariants as width
use Rattle.der.specs.declared.bits.BitString.{BitString}
use Rattle.number.proofs.laws.Papers.{apart}
use Rattle.number.proofs.laws.Refusals.{answered, refused_back}
use Rattle.der.specs.Papers.{opening_paper, integer_paper, bit_string_paper}
use Rattle.der.specs.declared.integers.BadInteger.{BadInteger}
use Rattle.der.specs.declared.integers.BadInteger.TheVariants as integer
use Rattle.std.specs.Prelude.{Option, Some, None, Result, Ok, Err}
use Rattle.der.specs.Opening.{Opening}

pub opening_apart : (x y : Opening) → opening_paper x ≡ opening_paper y → x ≡ y
opening_apart =
    apart opening_paper (λ l. answered (get_or l 0 0) (Ok ((get_or l 1 0), (get_or l 2 0))) Err)
    (elim [ Ok (start, end) ↦ refl | Err r ↦ refused_back _ Err r ])

-- the rules that an INTEGER may break, from 1 on
abbrev causes : List BadInteger
causes = integer.Empty ∷ integer.Negative ∷ integer.Padded ∷ integer.TooLarge ∷ []

pub integer_apart : (x y : Result ℕ BadInteger) → integer_paper x ≡ integer_paper y → x ≡ y
integer_apart =
    apart integer_paper (λ l. answered (get_or l 0 0) (Ok (get_or l 1 0)) (λ r. Err (get_or causes (get_or l 1 0 - 1) integer.Empty)))
    (elim [ Ok x ↦ refl | Err integer.Empty ↦ refl | Err integer.Negative ↦ refl | Err integer.Padded ↦ refl | Err integer.TooLarge ↦ refl ])

-- the BIT STRING, or that it is none, of its numbers
abbrev pub bit_string_back : List ℕ → Option BitString
bit_string_back l =
    pick (eqb (get_or l 0 0) 0)
    (Some (record { count = get_or l 1 0; address = record { width = pick (eqb (get_or l 2 0) (bits width.Bits32)) width.Bits32 width.Bits128; octets = drop 3 l } }))
    None

pub bit_string_apart : (x y : Option BitString) → bit_string_paper x ≡ bit_string_paper y → x ≡ y
bit_string_apart = apart bit_string_paper bit_string_back back
  where
    -- a width is told from its bits
    told : (w : Width) → pick (eqb (bits w) (bits width.Bits32)) width.Bits32 width.Bits128 ≡ w
    told = elim [ width.Bits32 ↦ refl | width.Bits128 ↦ refl ]

    back : (x : Option BitString) → bit_string_back (bit_string_paper x) ≡ x
    back (Some string) = ap (λ (w : Width). Some (record { count = string.count; address = record { width = w; octets = string.address.octets } })) (told string.address.width)
    back None = refl
