-- The refusals and their numbers: document 01, "Refusal numbers".
use Rattle.std.specs.Prelude.{ℕ}
use Rattle.number.specs.declared.refusal.Refusal.{Refusal}
use Rattle.number.specs.declared.refusal.Refusal.TheVariants as r

abbrev pub number_of : Refusal → ℕ
number_of r.ValueSize = 1
number_of r.Element = 2
number_of r.Tag = 3
number_of r.Contents = 4
number_of r.OctetsLeft = 5
number_of r.Afi = 6
number_of r.FamilyOrder = 7
number_of r.EmptyList = 8
number_of r.RangeForm = 9
number_of r.ElementOrder = 10
number_of r.RowCount = 11
number_of r.CertificateCount = 12
number_of r.IssuerLacks = 13
number_of r.NothingToInherit = 14
number_of r.NotHeld = 15
number_of r.TableShort = 16
number_of r.Mark = 17
number_of r.Framing = 18
number_of r.NotATable = 19
number_of r.OutputShort = 20
