-- Octets written into a run: how they lie in it, and what is written in parts. Theorems. Assumes nothing.
--     written_fits, written_past       where they fit, and where they do not.      length-written      the run keeps its length
--     written_none, written_one        no octet, and one.      written_on, written_before      two parts, the one in front first or last
--     head_written_lem, element_is         a head, and the element with it
--     address_bits_lem, bits_written_lem       the first bits of an address
use mathlib.Core.Path.{◌≡◌, refl, sym, ap, ◌∙◌}
use mathlib.Core.List.{List, [], ◌∷◌, ◌++◌, append_assoc}
use mathlib.Core.Logic.{◌⊎◌, inl, inr}
use Prim.Native.Nat.{ℕ, ◌+◌, ◌-◌, ◌*◌, ◌/◌, ◌%◌, ◌^◌, ◌≤◌, ◌<◌}
use native.Mathlib.Omega.{arith}
use borrow.Author.Tests.{lt-ltb, le-ltb}
use lib.ListN.{length, take, drop, set, length-append, length-take, length-drop}
use lib.Seq.{paste-zero, sets-eq, take_at, drop_at, take-append-le, take-take, drop-drop, length-take-le}
use Rattle.number.specs.Halves.{bits}
use Rattle.number.specs.Octets.{octets}
use Rattle.number.specs.Address.{sixteen, address_of}
use Rattle.number.specs.declared.halves.Width.{Width}
use Rattle.number.specs.declared.address.Address.{Address}
use Rattle.number.proofs.Picks.{below}
use Rattle.number.proofs.Sixteen.{width_octets}
use Rattle.der.specs.Head.{head_octets, element}
use Rattle.der.specs.Bits.{bits_of}
use Rattle.der.specs.Written.{written, head_written, address_bits, bits_written}
use Rattle.der.proofs.Tails.{first_octets}

module _ (out : List ℕ) (at : ℕ) (s : List ℕ) where
  -- they fit: the run with s in the place of as many of its octets
  pub written_fits : at + length s ≤ length out → written out at s ≡ take at out ++ s ++ drop (at + length s) out
  unfolding written
  written_fits h = rw (le-ltb (length out) (at + length s) h)

  -- they do not: the run as it is
  pub written_past : length out < at + length s → written out at s ≡ out
  unfolding written
  written_past h = rw (lt-ltb (length out) (at + length s) h)

  -- the run is as long as it was
  pub length-written : length (written out at s) ≡ length out
  length-written = go (below (length out) (at + length s))
    where
      go : (length out < at + length s) ⊎ (at + length s ≤ length out) → length (written out at s) ≡ length out
      go (inl h) = ap length (written_past h)
      go (inr h) = rw (written_fits h) (simp (length-append, length-take, length-drop) (omega arith))

-- no octet
pub written_none : (out : List ℕ) (at : ℕ) → at ≤ length out → written out at [] ≡ out
written_none out at h = written_fits out at [] (omega arith) ∙ sym (paste-zero out at [])

-- one octet, as a store writes it
pub written_one : (out : List ℕ) (at x : ℕ) → at < length out → set out at x ≡ written out at (x ∷ [])
written_one out at x h = sets-eq (x ∷ []) out at (omega arith) ∙ sym (written_fits out at (x ∷ []) (omega arith))

-- two parts, one after the other
module _ (out : List ℕ) (at : ℕ) (s u : List ℕ) (h : at + length s + length u ≤ length out) where
  -- both at once
  both : written out at (s ++ u) ≡ take at out ++ s ++ u ++ drop (at + length s + length u) out
  both =
      let e : at + length (s ++ u) ≡ at + length s + length u = omega (arith, length-append s u) in
      written_fits out at (s ++ u) (omega arith) ∙ rw (e, append_assoc (take at out) s u)

  -- the first one first
  pub written_on : written (written out at s) (at + length s) u ≡ written out at (s ++ u)
  written_on =
      let m = at + length s in
      let p = take at out ++ s in
      let l : length p ≡ m = omega (arith, length-append (take at out) s, length-take-le at out (omega arith)) in
      let z : m + length u ≤ length (written out at s) = omega (arith, length-written out at s) in
      written_fits (written out at s) m u z
      ∙ rw (written_fits out at s (omega arith), take_at p (drop m out) m l, ← drop-drop (length u) m (p ++ drop m out), drop_at p (drop m out) m l, drop-drop (length u) m out) (sym both)

  -- the first one last
  pub written_before : written (written out (at + length s) u) at s ≡ written out at (s ++ u)
  written_before =
      let m = at + length s in
      let r = u ++ drop (m + length u) out in
      let l : length (take m out) ≡ m = length-take-le m out (omega arith) in
      let z : m ≤ length (written out m u) = omega (arith, length-written out m u) in
      written_fits (written out m u) at s z
      ∙ rw (written_fits out m u h, append_assoc (take m out) u (drop (m + length u) out), take-append-le at (take m out) r (omega arith), take-take at m out (omega arith), drop_at (take m out) r m l)
      (sym (append_assoc (take at out ++ s) u (drop (m + length u) out)) ∙ sym both)

-- a head
pub head_written_lem : (out : List ℕ) (at tag n : ℕ) → n ≤ 65535 → head_written out at tag n ≡ written out at (head_octets tag n)
unfolding head_written
head_written_lem out at tag n h = rw (le-ltb 65535 n h)

-- and the element with it
pub element_is : (tag : ℕ) (c : List ℕ) → element tag c ≡ head_octets tag (length c) ++ c
unfolding element head_octets
element_is tag c = refl

-- the first n of the w bits of an address, at any width that is a whole number of octets
first_bits : (w n x : ℕ) → w % 8 ≡ 0 → n ≤ w → x < 2 ^ w → take ((n + 7) / 8) (sixteen w x) ≡ octets ((n + 7) / 8) (x / 2 ^ (w - 8 * ((n + 7) / 8)))
first_bits w n x d h b =
    let k = (n + 7) / 8 in
    let e : w - 8 * k ≡ 8 * (w / 8 - k) = omega arith in
    rw e (first_octets w k (w / 8 - k) x (omega arith) b)

-- and so at both
pub address_bits_lem : (width : Width) (n x : ℕ) → n ≤ bits width → x < 2 ^ bits width → address_bits n (address_of width x) ≡ bits_of (bits width) n x
unfolding address_bits bits_of
address_bits_lem width n x h b = ap (λ (s : List ℕ). (8 * ((n + 7) / 8) - n) ∷ s) (first_bits (bits width) n x (width_octets width).0 h b)

-- those written
pub bits_written_lem : (out : List ℕ) (at n : ℕ) (a : Address) → n ≤ 128 → bits_written out at n a ≡ written out at (address_bits n a)
unfolding bits_written
bits_written_lem out at n a h = rw (le-ltb 128 n h)
