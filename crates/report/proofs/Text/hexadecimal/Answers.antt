-- `report::Text::hexadecimal` meets its contract. Assumes nothing.
use mathlib.Core.Path.{◌≡◌}
use mathlib.Core.List.{[], ◌∷◌, ◌++◌}
use borrow.Author.Rules.{rules}
use Rattle.number.specs.Halves.{whole}
use Rattle.report.specs.Text.{hex_from, hexadecimal}
use Rattle.report.proofs.Digits.{hex_halves}
use Rattle.report.proofs.Putting.{fits_same, put_same, begin, first_fits, next_fits, onward, end}
use Rattle.report.proofs.Text.hexadecimal.Goals as goal

-- the digits of the two halves are those of the number: there is room for the upper ones
pub half-requires : goal.half-requires
half-requires c =
    let upper = hex_from 16 c.args.n.upper [] in
    let lower = hex_from 16 c.args.n.lower [] in
    let halves : upper ++ lower ≡ hexadecimal (whole c.args.n) = search (hex_halves, rules) in
    first_fits c.args.self.now.out.now c.args.self.now.at upper (lower ∷ []) (fits_same c.args.self.now.out.now c.args.self.now.at (upper ++ lower) halves c.requires)

-- and then for the lower ones
pub half-requires-2 : goal.half-requires-2
half-requires-2 c =
    let upper = hex_from 16 c.args.n.upper [] in
    let lower = hex_from 16 c.args.n.lower [] in
    let halves : upper ++ lower ≡ hexadecimal (whole c.args.n) = search (hex_halves, rules) in
    next_fits (begin c.args.self.now.out.now c.args.self.now.at upper (lower ∷ []) (fits_same c.args.self.now.out.now c.args.self.now.at (upper ++ lower) halves c.requires) c.half.ensures.written)

pub returns-clause-written : goal.returns-clause-written
returns-clause-written c =
    let upper = hex_from 16 c.args.n.upper [] in
    let lower = hex_from 16 c.args.n.lower [] in
    let halves : upper ++ lower ≡ hexadecimal (whole c.args.n) = search (hex_halves, rules) in
    put_same c.args.self.now.out.now c.args.self.now.at (hexadecimal (whole c.args.n)) halves
    (end (onward (begin c.args.self.now.out.now c.args.self.now.at upper (lower ∷ []) (fits_same c.args.self.now.out.now c.args.self.now.at (upper ++ lower) halves c.requires) c.half.ensures.written) c.half-2.ensures.written))
