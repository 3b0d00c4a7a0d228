-- A test that computes.
use Rattle.std.specs.Prelude.{Bool, true, false}

-- a where the test holds, else b
abbrev pub pick : {A : Type 0} → Bool → A → A → A
pick true a b = a
pick false a b = b
