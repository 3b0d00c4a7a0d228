-- A bundle is accepted as framed exactly if it is the writing of 1 to 8 certificates, of at most 65,536 octets. Assumes nothing.
--     framing_reads    the writing of 1 to 8 certificates is framed, and their number is found
--     framing_finds    and they themselves are found
--     framing_exact    what is accepted as framed is the writing of so many certificates
use mathlib.Core.Path.{◌≡◌, refl, sym, ap, ◌∙◌}
use mathlib.Core.List.{List, [], ◌∷◌, ◌++◌, append_assoc}
use mathlib.Core.Bool.{true, false, false≢true}
use Prim.Native.Nat.{ℕ, zero, suc, ◌+◌, ◌*◌, ◌/◌, ◌%◌, ◌≤◌, ◌<◌}
use native.Mathlib.Omega.{arith}
use lib.ListN.{length, get_or, take, drop, length-append, take-append-drop}
use lib.Dec.{ltb, eqb}
use lib.Seq.{length-take-le, drop-cons, drop-drop, take-append_seam, drop-append_seam}
use borrow.Author.Tests.{eqb-true}
use Rattle.std.specs.Prelude.{Ok, Some, None, Option}
use Rattle.number.specs.Octets.{Octets}
use Rattle.number.proofs.Picks.{picks, pick_not, pick_is}
use Rattle.number.proofs.laws.Octets.{octets-drop}
use Rattle.path.specs.Bundle.{least_octets, most_octets, most_certificates, end_of, on_after, is_values, is_marked, frame_of, value_in, after_value, certificates_in, value_octets, certificates_octets, bundle_of}
use Rattle.path.proofs.Framed.{Ends, ends, length-is, end_at, bundled}

-- WHAT IS WRITTEN IS FRAMED

-- a value that is written down ends where it ends
value_ends : (v rest : List ℕ) → end_of (value_octets v ++ rest) ≡ Some (2 + length v)
value_ends v rest =
    let n = length v in
    let e : n / 256 * 256 + n % 256 ≡ n = omega arith in
    let l = length-append v rest in
    sym (end_at (value_octets v ++ rest) n (omega arith) (sym e ∙ length-is (value_octets v ++ rest) (n / 256) (n % 256) (omega arith) refl refl) (omega arith))

-- so the values after it are counted with one less
value_reads : (k : ℕ) (v rest : List ℕ) → is_values (suc k) (value_octets v ++ rest) ≡ is_values k rest
unfolding is_values
value_reads k v rest =
    let d : drop (2 + length v) (value_octets v ++ rest) ≡ rest = sym (drop-drop (length v) 2 (value_octets v ++ rest)) ∙ drop-append_seam v rest in
    rw (value_ends v rest, d)

-- certificates that are written down are two values each, and nothing after them
pub certificates_read : (cs : List (List ℕ × List ℕ)) → is_values (2 * length cs) (certificates_octets cs) ≡ true
unfolding is_values
certificates_read [] = refl
certificates_read (c ∷ cs) =
    let n : 2 * suc (length cs) ≡ suc (suc (2 * length cs)) = omega arith in
    rw (n, append_assoc (value_octets c.0) (value_octets c.1) (certificates_octets cs))
    (value_reads (suc (2 * length cs)) c.0 (value_octets c.1 ++ certificates_octets cs) ∙ value_reads (2 * length cs) c.1 (certificates_octets cs) ∙ certificates_read cs)

-- The writing of 1 to 8 certificates, of at most 65,536 octets, is framed. That bound leaves each value fewer than 65,536 octets, so its length has 16 bits.
pub framing_reads : (cs : List (List ℕ × List ℕ)) → 0 < length cs → length cs ≤ most_certificates → length (bundle_of cs) ≤ most_octets → frame_of (bundle_of cs) ≡ Ok (length cs)
unfolding frame_of bundle_of is_marked
framing_reads cs some few fits =
    let least : least_octets ≤ length (bundle_of cs) = omega arith in
    let five : 5 ≤ length (bundle_of cs) = omega arith in
    let none : length cs ≡ 0 → ⊥ = (λ z. omega arith) in
    let values = certificates_read cs in
    sym (search picks depth 12 fits 20000)

-- a value that is written down is found, and what comes after it
value_found : (v rest : List ℕ) → value_in (value_octets v ++ rest) ≡ v
value_found v rest = let e : length v / 256 * 256 + length v % 256 ≡ length v = omega arith in rw e (take-append_seam v rest)

value_left : (v rest : List ℕ) → after_value (value_octets v ++ rest) ≡ rest
value_left v rest =
    let e : length v / 256 * 256 + length v % 256 ≡ length v = omega arith in
    rw e (sym (drop-drop (length v) 2 (value_octets v ++ rest)) ∙ drop-append_seam v rest)

-- so a certificate is, and those after it
more_found : (k : ℕ) (s r q v w : List ℕ) (cs : List (List ℕ × List ℕ)) → value_in s ≡ v → after_value s ≡ r → value_in r ≡ w → after_value r ≡ q → certificates_in k q ≡ cs → certificates_in (suc k) s ≡ (v, w) ∷ cs
more_found k s r q v w cs e f g h i = rw (f, e, g, h, i)

-- The certificates that are written down are found.
pub framing_finds : (cs : List (List ℕ × List ℕ)) → certificates_in (length cs) (drop 6 (bundle_of cs)) ≡ cs
unfolding bundle_of
framing_finds cs = go cs
  where
    go : (cs : List (List ℕ × List ℕ)) → certificates_in (length cs) (certificates_octets cs) ≡ cs
    go [] = refl
    go (c ∷ cs) =
        let others = certificates_octets cs in
        let rest = value_octets c.1 ++ others in
        ap (λ (s : List ℕ). certificates_in (length (c ∷ cs)) s) (append_assoc (value_octets c.0) (value_octets c.1) others)
        ∙ more_found (length cs) (value_octets c.0 ++ rest) rest others c.0 c.1 cs (value_found c.0 rest) (value_left c.0 rest) (value_found c.1 others) (value_left c.1 others) (go cs)

-- WHAT IS FRAMED WAS WRITTEN

-- s begins with a value, and so many are left after it
record Value (k : ℕ) (s : List ℕ) : Type 0 where
  value : List ℕ
  rest : List ℕ
  written : s ≡ value_octets value ++ rest
  left : is_values k rest ≡ true
  octets : Octets rest

-- by where the value ends
value_written : (k : ℕ) (s : List ℕ) (e : ℕ) → Octets s → Ends s e → is_values k (drop e s) ≡ true → Value k s
unfolding Octets
value_written k [] e o w h = let z : ⊥ = omega arith in absurd z
value_written k (x ∷ []) e o w h = let z : ⊥ = omega arith in absurd z
value_written k (x ∷ y ∷ s) e o w h =
    let n = x * 256 + y in
    let l : length (take n s) ≡ n = length-take-le n s (omega arith) in
    let y-fits : y < 256 = o 1 in
    let hi : length (take n s) / 256 ≡ x = omega arith in
    let lo : length (take n s) % 256 ≡ y = omega arith in
    let d : drop e (x ∷ y ∷ s) ≡ drop n s = ap (λ (i : ℕ). drop i (x ∷ y ∷ s)) w.is ∙ sym (drop-drop n 2 (x ∷ y ∷ s)) in
    record {
      value = take n s;
      rest = drop n s;
      written = rw (hi, lo, take-append-drop n s);
      left = sym (ap (is_values k) d) ∙ h;
      octets = octets-drop n s (λ i. o (suc (suc i)));
    }

-- the first of the values
first_value : (k : ℕ) (s : List ℕ) → Octets s → is_values (suc k) s ≡ true → Value k s
unfolding is_values
first_value k s o h = go (end_of s) refl h
  where
    go : (r : Option ℕ) → end_of s ≡ r → on_after r (λ e. is_values k (drop e s)) ≡ true → Value k s
    go None p q = let z : ◌≡◌ {A = ℕ} 0 1 = cc in absurd (omega arith)
    go (Some e) p q = value_written k s e o (ends s e p) q

-- the octets s are the writing of n certificates
record Certified (n : ℕ) (s : List ℕ) : Type 0 where
  certificates : List (List ℕ × List ℕ)
  written : s ≡ certificates_octets certificates
  count : n ≡ length certificates

-- twice n values, and nothing after them, are n certificates
certificates_written : (n : ℕ) (s : List ℕ) → Octets s → is_values (2 * n) s ≡ true → Certified n s
unfolding is_values
certificates_written zero [] o h = record { certificates = []; written = refl; count = refl }
certificates_written zero (x ∷ s) o h = let z = eqb-true (length (x ∷ s)) 0 h in absurd (omega arith)
certificates_written (suc n) s o h =
    let m : 2 * suc n ≡ suc (suc (2 * n)) = omega arith in
    let a = first_value (suc (2 * n)) s o (rw m at h) in
    let b = first_value (2 * n) a.rest a.octets a.left in
    let c = certificates_written n b.rest b.octets b.left in
    record {
      certificates = (a.value, b.value) ∷ c.certificates;
      written =
          a.written ∙ ap (λ (r : List ℕ). value_octets a.value ++ r) (b.written ∙ ap (λ (r : List ℕ). value_octets b.value ++ r) c.written)
          ∙ sym (append_assoc (value_octets a.value) (value_octets b.value) (certificates_octets c.certificates));
      count = ap suc c.count;
    }

-- the octets of the head, and the others
pub head_of_lem : (b : List ℕ) → 6 ≤ length b → b ≡ get_or b 0 0 ∷ get_or b 1 0 ∷ get_or b 2 0 ∷ get_or b 3 0 ∷ get_or b 4 0 ∷ get_or b 5 0 ∷ drop 6 b
head_of_lem b l = cc (drop-cons b 0 0 (omega arith), drop-cons b 1 0 (omega arith), drop-cons b 2 0 (omega arith), drop-cons b 3 0 (omega arith), drop-cons b 4 0 (omega arith), drop-cons b 5 0 (omega arith))

-- octets with the mark and the version begin with them
pub marked : (b : List ℕ) (s : List ℕ) (n : ℕ) → 6 ≤ length b → is_marked b ≡ true → n ≡ get_or b 5 0 → s ≡ drop 6 b → b ≡ 0x52 ∷ 0x43 ∷ 0x48 ∷ 0 ∷ 1 ∷ n ∷ s
unfolding is_marked
marked b s n l m p q =
    let (_, m₀) = pick_not (ltb (length b) 5) true false _ false≢true m in
    let (e₀, m₁) = pick_is (eqb (get_or b 0 0) 0x52) true _ false false≢true m₀ in
    let (e₁, m₂) = pick_is (eqb (get_or b 1 0) 0x43) true _ false false≢true m₁ in
    let (e₂, m₃) = pick_is (eqb (get_or b 2 0) 0x48) true _ false false≢true m₂ in
    let (e₃, e₄) = pick_is (eqb (get_or b 3 0) 0) true _ false false≢true m₃ in
    cc (head_of_lem b l, eqb-true (get_or b 0 0) 0x52 e₀, eqb-true (get_or b 1 0) 0x43 e₁, eqb-true (get_or b 2 0) 0x48 e₂, eqb-true (get_or b 3 0) 0 e₃, eqb-true (get_or b 4 0) 1 e₄)

-- b is the writing of 1 to 8 certificates, n of them, of at most 65,536 octets
pub record Framed (b : List ℕ) (n : ℕ) : Type 0 where
  pub certificates : List (List ℕ × List ℕ)
  pub written : b ≡ bundle_of certificates
  pub count : n ≡ length certificates
  pub some : 0 < length certificates
  pub few : length certificates ≤ most_certificates
  pub fits : length (bundle_of certificates) ≤ most_octets

-- Octets that are accepted as framed are the writing of so many certificates.
pub framing_exact : (b : List ℕ) (n : ℕ) → Octets b → frame_of b ≡ Ok n → Framed b n
unfolding bundle_of
framing_exact b n o h =
    let f = bundled b n h in
    let c = certificates_written n (drop 6 b) (octets-drop 6 b o) f.values in
    let w = marked b (certificates_octets c.certificates) (length c.certificates) f.least f.marked (sym c.count ∙ f.count) (sym c.written) in
    record {
      certificates = c.certificates;
      written = w;
      count = c.count;
      some = omega (arith, c.count, f.some);
      few = omega (arith, c.count, f.few);
      fits = omega (arith, ap length w, f.most);
    }
