-- The starred examples of document 01, all twelve, each held by the definitions. A theorem. Assumes nothing.
use mathlib.Core.Path.{◌≡◌, refl}
use mathlib.Core.List.{List, [], ◌∷◌, map}
use Rattle.number.specs.Kept.{one_filled}
use Rattle.table.specs.Spaces.{between, width_of}
use Rattle.der.specs.Head.{body, head}
use Rattle.der.specs.Strings.{is_sized}
use Rattle.der.specs.Bits.{cut, read_bits}
use Rattle.der.specs.Walk.{walk, walk_all, dec_all}
use Rattle.der.specs.Parts.{tagged, two, only, admitted, list_of}
use Rattle.values.specs.Addresses.{bits_at, prefix_at, address_at}
use Rattle.values.specs.Elements.{admit_row, element_step, elements_of}
use Rattle.values.specs.Choices.{list_at, listed_at, choice_at}
use Rattle.values.specs.Blocks.{space_of, space_at, family_of, family_at, admit_family, family_step, families_of, read_blocks}
use Rattle.values.specs.Tables.{ip_rows}
use Rattle.values.specs.Starred as values
use Rattle.values.proofs.laws.Starred.{starred as starred_values}
use Rattle.path.specs.Bundle.{end_of, is_values, is_marked, frame_of}
use Rattle.path.specs.Walk.{against, walk as walk_rows}
use Rattle.path.specs.Replies.{extension_of}
use Rattle.path.specs.Certificate.{ip_step, as_step, lacked, hold_step, after_inheritance, after_presence, after_reading, certificate}
use Rattle.path.specs.Paths.{descent, path_of}
use Rattle.path.specs.Starred.{said, answer, twelfth, after, examples}

-- the twelfth, by computing
twelfth_said : said twelfth ≡ answer twelfth
unfolding twelfth path_of descent certificate after_reading after_presence after_inheritance hold_step lacked as_step ip_step extension_of walk_rows against frame_of is_marked is_values end_of ip_rows read_blocks families_of family_step admit_family family_at family_of space_at space_of choice_at listed_at list_at elements_of element_step admit_row address_at prefix_at bits_at list_of admitted only two tagged dec_all walk_all walk read_bits cut is_sized head body width_of between one_filled
twelfth_said = refl

-- after values that are read as the document says
with_values : (es : List values.Example) → map values.reading es ≡ map (λ (e : values.Example). e.answer) es → map said (after es) ≡ map answer (after es)
with_values [] h = rw twelfth_said
with_values (e ∷ es) h =
    let first : values.reading e ≡ e.answer = cc in
    let rest : map values.reading es ≡ map (λ (x : values.Example). x.answer) es = cc in
    rw (first, with_values es rest)

-- each example is read, or checked, as the document says
pub starred : map said examples ≡ map answer examples
starred = with_values values.examples starred_values
