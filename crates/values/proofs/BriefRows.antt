-- What the code of `brief_addresses` takes as a prefix or a range, in the terms of the definitions. Theorems. Assumes nothing.
--     brief_..     what `brief_bits` says.     prefix_span     `brief_prefix`.     both_..     `brief_range`
use mathlib.Core.Path.{◌≡◌, sym, ap, ◌∙◌}
use mathlib.Core.List.{List, ◌++◌}
use Prim.Native.Nat.{ℕ, ◌+◌, ◌-◌, ◌≤◌}
use native.Mathlib.Omega.{arith}
use lib.ListN.{length, get_or, take, drop, take-append-drop}
use lib.Seq.{length-take-le}
use Rattle.number.specs.Halves.{whole, halves, bits}
use Rattle.number.specs.Address.{address_of, number_of}
use Rattle.number.specs.declared.address.Address.{Address}
use Rattle.number.specs.declared.halves.Halves.{Halves}
use Rattle.number.specs.declared.halves.Width.{Width}
use Rattle.number.proofs.Picks.{rest_of}
use Rattle.number.proofs.Sixteen.{width_octets}
use Rattle.number.proofs.TwoHalves.{whole_halves}
use Rattle.number.proofs.laws.Address.{address_is}
use Rattle.der.specs.Tags.{SEQUENCE}
use Rattle.der.specs.Parts.{part}
use Rattle.der.proofs.laws.Bits.{Begins}
use Rattle.values.specs.Forms.{Form, prefix, range, span, span_of}
use Rattle.values.specs.Addresses.{address_at}
use Rattle.values.specs.Encode.{form_octets}
use Rattle.values.specs.Briefs.{Starts, Within, placed_bits, Leading, filled_bits, BriefBits, IsRange, BriefSpan}
use Rattle.values.specs.declared.brief_addresses.Brief.{Brief}
use Rattle.std.specs.Prelude.{Some}
use Rattle.values.proofs.BriefReads.{both_taken}
use Rattle.values.proofs.BriefSpans.{last_within, last_filled, range_span}
use Rattle.values.proofs.laws.Forms.{Parts}
use Rattle.values.proofs.laws.Elements.{form_reads, form_size}

-- the first k octets of s are an element with these low and high
abbrev Read_as : ℕ → List ℕ → ℕ → ℕ → ℕ → Type 0
Read_as w s x y k = (part (x, y) (drop k s) ≡ address_at w s) × (k ≤ length s)

-- octets that are those of a form are read as its low and high
form_taken : (width : Width) (f : Form) (s : List ℕ) (k x y : ℕ) → span_of (bits width) f ≡ span x y → Parts (bits width) f → Starts s k (form_octets (bits width) f)
    → Read_as (bits width) s x y k
form_taken width f s k x y h p b =
    let m = width_octets width in
    let e : s ≡ form_octets (bits width) f ++ drop k s = sym (take-append-drop k s) ∙ ap (λ (t : List ℕ). t ++ drop k s) b.1 in
    (sym (form_reads (bits width) m.0 f (x, y) (drop k s) h p (omega (arith, form_size (bits width) f m.1 p))) ∙ ap (address_at (bits width)) (sym e), b.0)

-- what `brief_bits` says of the octets that it took
module _ (b : Brief) (k : ℕ) (width : Width) (s : List ℕ) (p : BriefBits (bits width) s (Some (b, k))) where
  -- they are those of bits that begin an address
  brief_begins : Begins (bits width) b.count (placed_bits (bits width) b.bits)
  brief_begins = let (f, u, z, t, i) = p.2 in record { fits = f; below = u; zeros = z }

  -- within s
  pub brief_inside : k ≤ length s
  brief_inside = p.2.3.0

  -- and few
  brief_few : k ≤ 40
  brief_few =
      let t = p.2.3 in
      omega (arith, sym (ap length t.1) ∙ length-take-le k s t.0, form_size (bits width) (prefix b.count (placed_bits (bits width) b.bits)) (width_octets width).1 brief_begins)

  -- the first of a word
  pub brief_leading : Leading b.count b.bits
  brief_leading = p.2.4

  -- the address's number
  brief_low : {a : Address} {h : Halves} → a ≡ address_of width (placed_bits (bits width) b.bits) → h ≡ halves (number_of a) → whole h ≡ placed_bits (bits width) b.bits
  brief_low {a} e v = ap whole v ∙ whole_halves (number_of a) ∙ address_is width (placed_bits (bits width) b.bits) a brief_begins.below e

  module _ {last : ℕ} (f : last ≡ filled_bits b.count b.bits) where
    -- with ones after them, they end within the width
    pub brief_last : Within (bits width) (last + 1)
    brief_last = rw f (last_within (bits width) b.count b.bits brief_leading.1 brief_begins.fits brief_leading.3)

    -- the last address's number
    brief_high : {h : Halves} → h ≡ halves (placed_bits (bits width) (last + 1) - 1) → whole h ≡ placed_bits (bits width) (filled_bits b.count b.bits + 1) - 1
    brief_high {h} v = rw f at (ap whole v ∙ whole_halves (placed_bits (bits width) (last + 1) - 1))

    -- so they are read as a prefix
    pub prefix_span : {a : Address} {low high : Halves} → a ≡ address_of width (placed_bits (bits width) b.bits) → low ≡ halves (number_of a) → high ≡ halves (placed_bits (bits width) (last + 1) - 1)
        → BriefSpan (bits width) s (Some (record { low = low; high = high }, k))
    prefix_span {low = low} {high = high} e v h =
        let x : ℕ = placed_bits (bits width) b.bits in
        let o = last_filled (bits width) b.count b.bits brief_leading.1 brief_begins.fits brief_leading.3 in
        let z : Read_as (bits width) s (whole low) (whole high) k = rw (brief_low e v, brief_high h) (form_taken width (prefix b.count x) s k x _ (ap (span x) (sym o)) brief_begins p.2.3) in (p.1, z.0, z.1)

-- two brief BIT STRINGs in a SEQUENCE
module _ (b : Brief) (k : ℕ) (d : Brief) (j : ℕ) (width : Width) (s : List ℕ) (p : BriefBits (bits width) (take (length s - 2) (drop 2 s)) (Some (b, k)))
    (q : BriefBits (bits width) (take (length (take (length s - 2) (drop 2 s)) - k) (drop k (take (length s - 2) (drop 2 s)))) (Some (d, j))) where
  -- they are read as a range
  pub both_span : {v last : ℕ} {a : Address} {low high : Halves} → a ≡ address_of width (placed_bits (bits width) b.bits) → low ≡ halves (number_of a) → last ≡ filled_bits d.count d.bits
      → high ≡ halves (placed_bits (bits width) (last + 1) - 1) → 2 ≤ length s → get_or s 0 0 ≡ SEQUENCE → v ≡ get_or s 1 0 → k + j ≡ v
      → IsRange b.count b.bits d.count d.bits → BriefSpan (bits width) s (Some (record { low = low; high = high }, 2 + k + j))
  both_span {low = low} {high = high} f g i u h t e n r =
      let x = brief_begins b k width _ p in
      let y = brief_begins d j width _ q in
      let a = rw (rest_of 2 s) at p.2.3 in
      let c = rw (rest_of 2 s, rest_of k (drop 2 s)) at q.2.3 in
      let o = range_span (bits width) b.count b.bits d.count d.bits (brief_leading b k width _ p) (brief_leading d j width _ q) x.fits y.fits r in
      let z : Read_as (bits width) s (whole low) (whole high) (2 + k + j) = rw (brief_low b k width _ p f g, brief_high d j width _ q i u)
      (form_taken width (range b.count (placed_bits (bits width) b.bits) d.count (placed_bits (bits width) d.bits)) s (2 + k + j) _ _ o (x, y)
      (rw t at (both_taken s k j _ _ h (n ∙ e) (omega (arith, brief_few b k width _ p, brief_few d j width _ q)) a c))) in
      (omega arith, z.0, z.1)
