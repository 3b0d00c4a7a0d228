-- The writer's answers in this paper's numbers say the answers: no two have the same numbers. Theorems. Assumes nothing.
use mathlib.Core.Path.{◌≡◌, refl}
use lib.ListN.{length, get_or}
use lib.Dec.{eqb}
use Rattle.std.specs.Prelude.{Ok, Err, Option, Some, None}
use Rattle.number.specs.Tests.{pick}
use Rattle.number.proofs.laws.Papers.{apart}
use Rattle.values.proofs.laws.Papers.{replied, replied_back}
use Rattle.writer.specs.Writer.{Writing}
use Rattle.writer.specs.Papers.{paper, form_paper, open_paper}
use Rattle.writer.specs.declared.families.Open.{Open}
use Rattle.writer.specs.declared.Form.{Form}
use Rattle.writer.specs.declared.Form.TheVariants as form

pub paper_apart : (x y : Writing) → paper x ≡ paper y → x ≡ y
paper_apart = apart paper (replied (λ n k. Ok n) Err) (elim [ Ok n ↦ refl | Err f ↦ replied_back (λ n k. Ok n) Err f ])

pub form_apart : (x y : Form) → form_paper x ≡ form_paper y → x ≡ y
form_apart = apart form_paper (λ l. pick (eqb (length l) 2) (form.Prefix (get_or l 1 0)) (form.Range (get_or l 1 0) (get_or l 2 0))) (elim [ form.Prefix n ↦ refl | form.Range n m ↦ refl ])

pub open_apart : (x y : Option Open) → open_paper x ≡ open_paper y → x ≡ y
open_apart = apart open_paper (λ l. pick (eqb (length l) 1) None (Some (record { space = get_or l 1 0; size = get_or l 2 0 }))) (elim [ Some list ↦ refl | None ↦ refl ])
