-- `values::identifiers::last` meets its contract. Assumes nothing.
use mathlib.Core.Path.{ap}
use Rattle.std.proofs.Common.{rules}
use Rattle.std.specs.Prelude.{◌≡◌, Ok, Err}
use Rattle.values.specs.Into.{chosen}
use Rattle.values.proofs.Exits.{handed}
use Rattle.values.proofs.MemberReads.{last_isnt, last_over, last_all}
use Rattle.values.proofs.identifiers.last.Goals as goal

pub returns-in_err-end-clause-rows : goal.returns-in_err-end-clause-rows
returns-in_err-end-clause-rows c =
    let e : chosen c.member.new.rows.count c.member.result ≡ Err _ = ap (chosen c.member.new.rows.count) c.in_err-end.was in
    rw (handed _ c.from_residual.ensures.1) (search (last_isnt, rules))

pub returns-then-end-s-clause-rows : goal.returns-then-end-s-clause-rows
returns-then-end-s-clause-rows c =
    let e : chosen c.member.new.rows.count c.member.result ≡ Ok (c.member.new.rows.count, c.in_ok-end.end) = ap (chosen c.member.new.rows.count) c.in_ok-end.was in
    rw c.at.ensures (search (last_over, rules))

pub returns-clause-rows : goal.returns-clause-rows
returns-clause-rows c =
    let e : chosen c.member.new.rows.count c.member.result ≡ Ok (c.member.new.rows.count, c.in_ok-end.end) = ap (chosen c.member.new.rows.count) c.in_ok-end.was in
    search (last_all, rules)
