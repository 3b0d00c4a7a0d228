use Rattle.std.proofs.Common.{◌≡◌}
use Rattle.table.specs.Rows.{room}
use Rattle.report.proofs.Lines.{Lined}
use Rattle.report.proofs.Text.rows.Given as goal

abbrev pub invariant-loop-k : goal.invariant-loop-k
invariant-loop-k l = (l.self.out.ghost_name ≡ l.initial.self.out.ghost_name) × Lined l.initial.self.out.now l.initial.self.at l.table (room l.table) l.self.out.now l.k l.self.at
