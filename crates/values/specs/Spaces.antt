-- The lists that a value may have: addresses of a space, AS numbers, routing domain identifiers.
use Rattle.std.specs.Prelude.{ℕ}
use Rattle.values.specs.Limits.{as_numbers, routing_domains}
use Rattle.values.specs.declared.elements.Space.{Space}
use Rattle.values.specs.declared.elements.Space.TheVariants as space

-- its number in a row
abbrev pub space_number : Space → ℕ
space_number (space.Addresses a) = a
space_number space.AsNumbers = as_numbers
space_number space.RoutingDomains = routing_domains
