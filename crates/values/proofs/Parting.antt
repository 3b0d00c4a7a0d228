-- The octets at fault: which they are, where they lie, and that the place is in the value. Theorems. Assumes nothing.
use mathlib.Core.Path.{◌≡◌, refl, sym, ap, ◌∙◌}
use mathlib.Core.List.{List, []}
use mathlib.Core.Bool.{Bool, true, false}
use Prim.Native.Nat.{ℕ, ◌+◌, ◌-◌}
use lib.ListN.{length, take, drop}
use borrow.Author.Tests.{eq-eqb, ne_eqb}
use Rattle.number.proofs.Picks.{rest_of}
use Rattle.number.specs.declared.refusal.Refusal.{Refusal}
use Rattle.number.specs.declared.refusal.Refusal.TheVariants as refusal
use Rattle.values.specs.Limits.{ip_extension}
use Rattle.values.specs.Readings.{Left, read_both}
use Rattle.values.specs.Parted.{has_octets, fault_octets, fault_pointer}
use Rattle.values.specs.declared.readings.Refused as refused
use Rattle.values.specs.Readings.{Reading}
use Rattle.std.specs.Prelude.{Ok, Err}

-- every refusal but 11, 16 and 1 has octets at fault
pub all_but : (r : Refusal) → (r ≡ refusal.RowCount → ⊥) → (r ≡ refusal.TableShort → ⊥) → (r ≡ refusal.ValueSize → ⊥) → true ≡ has_octets r
unfolding has_octets
all_but refusal.ValueSize a b c = absurd (c refl)
all_but refusal.Element a b c = refl
all_but refusal.Tag a b c = refl
all_but refusal.Contents a b c = refl
all_but refusal.OctetsLeft a b c = refl
all_but refusal.Afi a b c = refl
all_but refusal.FamilyOrder a b c = refl
all_but refusal.EmptyList a b c = refl
all_but refusal.RangeForm a b c = refl
all_but refusal.ElementOrder a b c = refl
all_but refusal.RowCount a b c = absurd (a refl)
all_but refusal.CertificateCount a b c = refl
all_but refusal.IssuerLacks a b c = refl
all_but refusal.NothingToInherit a b c = refl
all_but refusal.NotHeld a b c = refl
all_but refusal.TableShort a b c = absurd (b refl)
all_but refusal.Mark a b c = refl
all_but refusal.Framing a b c = refl
all_but refusal.NotATable a b c = refl
all_but refusal.OutputShort a b c = refl

module _ (ip ids t t' : List ℕ) (r : Reading) (e : ◌≡◌ {A = Left} (r, t') (read_both ip ids t)) where
  reply : (read_both ip ids t).0 ≡ r
  reply = sym (ap (λ (l : Left). l.0) e)

  -- both values were read
  module _ (n : ℕ) (d : r ≡ Ok n) where
    pub rows_octets : [] ≡ fault_octets ip ids t
    unfolding fault_octets
    rows_octets = rw (reply, d)

    pub rows_pointer : (p q : ℕ × ℕ) → ◌≡◌ {A = ℕ × ℕ} (p.0, 0 + p.1) (fault_pointer p q ip ids t)
    unfolding fault_pointer
    rows_pointer p q = rw (reply, d)

  module _ (f : refused.Refused) (d : r ≡ Err f) (b : Bool) (h : b ≡ has_octets f.refusal) where
    -- a refusal without octets
    pub none_octets : b ≡ false → [] ≡ fault_octets ip ids t
    unfolding fault_octets
    none_octets k = rw (reply, d, ← h, k)

    pub none_pointer : (p q : ℕ × ℕ) → b ≡ false → ◌≡◌ {A = ℕ × ℕ} (p.0, 0 + p.1) (fault_pointer p q ip ids t)
    unfolding fault_pointer
    none_pointer p q k = rw (reply, d, ← h, k)

    -- octets of the IP value
    module _ (k : b ≡ true) (g : f.extension ≡ ip_extension) where
      pub ip_octets : take (length ip - f.place) (drop f.place ip) ≡ fault_octets ip ids t
      unfolding fault_octets
      ip_octets = rest_of f.place ip ∙ rw (reply, d, ← h, k, eq-eqb f.extension ip_extension g)

      pub ip_pointer : (p q : ℕ × ℕ) → ◌≡◌ {A = ℕ × ℕ} (p.0, f.place + p.1) (fault_pointer p q ip ids t)
      unfolding fault_pointer
      ip_pointer p q = rw (reply, d, ← h, k, eq-eqb f.extension ip_extension g)

    -- octets of the AS value
    module _ (k : b ≡ true) (g : f.extension ≡ ip_extension → ⊥) where
      pub as_octets : take (length ids - f.place) (drop f.place ids) ≡ fault_octets ip ids t
      unfolding fault_octets
      as_octets = rest_of f.place ids ∙ rw (reply, d, ← h, k, ne_eqb f.extension ip_extension g)

      pub as_pointer : (p q : ℕ × ℕ) → ◌≡◌ {A = ℕ × ℕ} (q.0, f.place + q.1) (fault_pointer p q ip ids t)
      unfolding fault_pointer
      as_pointer p q = rw (reply, d, ← h, k, ne_eqb f.extension ip_extension g)
