-- The starred examples of document 01, each held by the definitions. A theorem. Assumes nothing.
use mathlib.Core.Path.{◌≡◌, refl}
use mathlib.Core.List.{map}
use Rattle.number.specs.Kept.{run, kept_min, lost_max, kept_max, zero_filled, one_filled}
use Rattle.number.specs.Shape.{free, is_prefix, shape_of}
use Rattle.table.specs.Spaces.{between, kind_of, width_of}
use Rattle.der.specs.Head.{body, head, length_octets, element}
use Rattle.der.specs.Strings.{is_null, is_sized}
use Rattle.der.specs.Integer.{padded, integer_of}
use Rattle.der.specs.Bits.{cut, read_bits}
use Rattle.der.specs.Walk.{walk, walk_all, dec_all}
use Rattle.der.specs.Parts.{tagged, two, only, admitted, list_of}
use Rattle.values.specs.Forms.{ranged}
use Rattle.values.specs.Addresses.{bits_at, bounds_of, range_at, prefix_at, range_row_at, address_at}
use Rattle.values.specs.Ids.{integer_at, pair_of, pair_at, number_at, range_at as id_range_at, id_at}
use Rattle.values.specs.Elements.{admit_row, element_step, elements_of}
use Rattle.values.specs.Choices.{inherited, list_at, inherit_at, listed_at, choice_at}
use Rattle.values.specs.Blocks.{space_of, space_at, family_of, family_at, admit_family, family_step, families_of, read_blocks}
use Rattle.values.specs.Identifiers.{member_of, member_at, last_of, first_of, members_of, some_members, read_identifiers}
use Rattle.values.specs.Tables.{ip_rows, as_rows}
use Rattle.values.specs.Starred.{Example, reading, examples}

-- each example's octets are read as the document says
pub starred : map reading examples ≡ map (λ (e : Example). e.answer) examples
unfolding examples ip_rows as_rows read_blocks families_of family_step admit_family family_at family_of space_at space_of choice_at listed_at inherit_at list_at inherited elements_of element_step admit_row address_at range_row_at prefix_at range_at bounds_of bits_at id_at id_range_at number_at pair_at pair_of integer_at read_identifiers some_members members_of first_of last_of member_at member_of ranged list_of admitted only two tagged dec_all walk_all walk read_bits cut integer_of padded is_null is_sized head body element length_octets width_of kind_of between shape_of is_prefix free run kept_min kept_max lost_max zero_filled one_filled
starred = refl
