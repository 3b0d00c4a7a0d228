-- What was read lies in the room that was lent for it.
use Rattle.std.specs.Prelude.{ℕ, ◌≤◌, List, Result, Ok, Err, length}
use Rattle.std.specs.declared.io.Error.{Error}

abbrev pub Within : Result ℕ Error → List ℕ → Type 0
Within (Ok n) room = n ≤ length room
Within (Err e) room = Unit {0}
