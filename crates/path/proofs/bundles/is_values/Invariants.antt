use mathlib.Core.Path.{◌≡◌}
use Prim.Native.Nat.{◌-◌}
use Rattle.path.specs.Bundle.{is_values}
use Rattle.path.proofs.bundles.is_values.Given as goal

abbrev pub invariant-loop : goal.invariant-loop
invariant-loop l = is_values (l.count - l.counter) l.rest ≡ is_values l.count l.s
