-- `values::identifiers::first` meets its contract. Assumes nothing.
use mathlib.Core.Path.{ap}
use Rattle.std.proofs.Common.{rules}
use Rattle.std.specs.Prelude.{◌≡◌, Ok, Err}
use Rattle.values.specs.Into.{chosen}
use Rattle.values.proofs.Exits.{handed, counted_after}
use Rattle.values.proofs.MemberReads.{first_isnt, first_alone, first_after}
use Rattle.values.proofs.identifiers.first.Goals as goal

pub returns-in_err-end-clause-rows : goal.returns-in_err-end-clause-rows
returns-in_err-end-clause-rows c =
    let e : chosen c.member.new.rows.count c.member.result ≡ Err _ = ap (chosen c.member.new.rows.count) c.in_err-end.was in
    rw (handed _ c.from_residual.ensures.1) (search (first_isnt, rules))

pub returns-then-end-s-clause-rows : goal.returns-then-end-s-clause-rows
returns-then-end-s-clause-rows c =
    let e : chosen c.member.new.rows.count c.member.result ≡ Ok (c.member.new.rows.count, c.in_ok-end.end) = ap (chosen c.member.new.rows.count) c.in_ok-end.was in
    rw (c.after.ensures (search rules), counted_after) (search (first_after, rules))

pub returns-clause-rows : goal.returns-clause-rows
returns-clause-rows c =
    let e : chosen c.member.new.rows.count c.member.result ≡ Ok (c.member.new.rows.count, c.in_ok-end.end) = ap (chosen c.member.new.rows.count) c.in_ok-end.was in
    search (first_alone, rules)
