-- `values::blocks::family_of` meets its contract. Assumes nothing.
use mathlib.Core.Path.{ap}
use Rattle.std.proofs.Common.{rules}
use Rattle.std.specs.Prelude.{◌≡◌, Ok, Err}
use Rattle.values.specs.Into.{chosen}
use Rattle.values.proofs.Exits.{handed, shifted, kept}
use Rattle.values.proofs.FamilyReads.{family_space, family_choice, family_over, family_all}
use Rattle.values.proofs.blocks.family_of.Goals as goal

pub returns-in_err-space-clause-rows : goal.returns-in_err-space-clause-rows
returns-in_err-space-clause-rows c = rw (handed _ c.from_residual.ensures.1) (search (family_space, rules))

pub returns-in_err-j-clause-rows : goal.returns-in_err-j-clause-rows
returns-in_err-j-clause-rows c =
    let p = shifted c.in_ok-space.k c.read.result (c.in_err-j.ensures (search rules)) in
    let e : chosen c.read.new.rows.count c.read.result ≡ Err p.0 = ap (chosen c.read.new.rows.count) p.1 in
    rw (handed _ c.from_residual-in_err-j.ensures.1, p.2) (search (family_choice, rules))

pub returns-then-j-rest-clause-rows : goal.returns-then-j-rest-clause-rows
returns-then-j-rest-clause-rows c =
    let e : chosen c.read.new.rows.count c.read.result ≡ Ok (c.read.new.rows.count, c.in_ok-j.j) = ap (chosen c.read.new.rows.count) (kept c.in_ok-space.k c.read.result (c.in_ok-j.ensures (search rules))) in
    rw c.at.ensures (search (family_over, rules))

pub returns-clause-rows : goal.returns-clause-rows
returns-clause-rows c =
    let e : chosen c.read.new.rows.count c.read.result ≡ Ok (c.read.new.rows.count, c.in_ok-j.j) = ap (chosen c.read.new.rows.count) (kept c.in_ok-space.k c.read.result (c.in_ok-j.ensures (search rules))) in
    search (family_all, rules)
