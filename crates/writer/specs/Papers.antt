-- The answers of the writer in this paper's numbers: of a reply all nine; of a form 0, as nothing is refused, and its values. (proofs/laws/Papers: they tell the cases apart.)
use Rattle.std.specs.Prelude.{ℕ, List, [], ◌∷◌, Ok, Err, Option, Some, None}
use Rattle.values.specs.Papers.{refused, accepted}
use Rattle.writer.specs.Writer.{Writing}
use Rattle.writer.specs.declared.families.Open.{Open}
use Rattle.writer.specs.declared.Form.{Form}
use Rattle.writer.specs.declared.Form.TheVariants as form

-- "rows (the writer: octets)"
abbrev pub paper : Writing → List ℕ
paper (Ok n) = accepted n 0
paper (Err f) = refused f

-- the bits that are kept: a prefix's, or min's and max's
abbrev pub form_paper : Form → List ℕ
form_paper (form.Prefix n) = 0 ∷ n ∷ []
form_paper (form.Range n m) = 0 ∷ n ∷ m ∷ []

-- the open list: its space, and the octets of its elements; 0 alone if none is open
abbrev pub open_paper : Option Open → List ℕ
open_paper (Some list) = 0 ∷ list.space ∷ list.size ∷ []
open_paper None = 0 ∷ []
