-- The six numbers of a row say the row: no two rows have the same numbers; and a kind's number says the kind. Theorems. Assumes nothing.
use mathlib.Core.Path.{◌≡◌, refl, sym, ap, ◌∙◌}
use mathlib.Core.List.{List}
use mathlib.Core.Bool.{Bool, true, false}
use Prim.Native.Nat.{ℕ, ◌<◌}
use native.Mathlib.Omega.{arith}
use lib.ListN.{get_or}
use lib.Dec.{eqb}
use borrow.Author.Tests.{eqb-true, eqb-false}
use Rattle.number.proofs.laws.Papers.{apart}
use Rattle.std.specs.Prelude.{Option, Some, None, Result, Ok, Err}
use Rattle.number.specs.Tests.{pick}
use Rattle.table.specs.Rows.{row_paper}
use Rattle.table.specs.Spaces.{mixed_kind, ip_kind, as_kind, kind_number, kind_paper, kind_told, kind_told_paper}
use Rattle.table.specs.declared.kinds.Kind.{Kind}
use Rattle.table.specs.declared.kinds.Kind.TheVariants.{Ip, As}
use Rattle.table.specs.declared.kinds.UnknownKind.{UnknownKind}
use Rattle.table.specs.declared.rows.Row.{Row}

-- the row of six numbers
abbrev pub row_back : List ℕ → Row
row_back l = record { space = get_or l 0 0; inherit = get_or l 1 0; low = record { upper = get_or l 2 0; lower = get_or l 3 0 }; high = record { upper = get_or l 4 0; lower = get_or l 5 0 } }

pub row_apart : (x y : Row) → row_paper x ≡ row_paper y → x ≡ y
row_apart = apart row_paper row_back (λ x. refl)

-- the kind of a space, or none, of its number
abbrev pub kind_back : ℕ → Option Kind
kind_back n = pick (eqb n ip_kind) (Some Ip) (pick (eqb n as_kind) (Some As) None)

pub kind_apart : (x y : Option Kind) → kind_paper x ≡ kind_paper y → x ≡ y
kind_apart = apart kind_paper kind_back (elim [ None ↦ refl | Some Ip ↦ refl | Some As ↦ refl ])

-- the kind that a number is told as, or the number that is no kind's, of its numbers
abbrev pub told_back : List ℕ → Result Kind UnknownKind
told_back l = pick (eqb (get_or l 0 0) 0) (Ok (pick (eqb (get_or l 1 0) ip_kind) Ip As)) (Err (record { 0 = get_or l 1 0 }))

pub kind_told_apart : (x y : Result Kind UnknownKind) → kind_told_paper x ≡ kind_told_paper y → x ≡ y
kind_told_apart = apart kind_told_paper told_back (elim [ Ok Ip ↦ refl | Ok As ↦ refl | Err other ↦ refl ])

-- a kind is told from its number
pub kind_told_lem : (x : Kind) → kind_told (kind_number x) ≡ Ok x
kind_told_lem Ip = refl
kind_told_lem As = refl

-- the kinds by their numbers
pub ip_number : {x : Kind} → x ≡ Ip → kind_number x ≡ ip_kind
ip_number e = ap kind_number e

pub as_number : {x : Kind} → x ≡ As → kind_number x ≡ ip_kind → ⊥
as_number e f = let z = ap kind_number e in omega arith

-- neither is that of a mixed table
pub number_some : (x : Kind) → kind_number x ≡ mixed_kind → ⊥
number_some Ip e = omega arith
number_some As e = omega arith

-- a number that is told as a kind is the kind's,
pub told_was : (n : ℕ) (x : Kind) → kind_told n ≡ Ok x → kind_number x ≡ n
told_was n x e = go (eqb n ip_kind) refl (eqb n as_kind) refl e
  where
    go : (a : Bool) → eqb n ip_kind ≡ a → (b : Bool) → eqb n as_kind ≡ b → ◌≡◌ {A = Result Kind UnknownKind} (pick a (Ok Ip) (pick b (Ok As) (Err (record { 0 = n })))) (Ok x) → kind_number x ≡ n
    go true p b q f = let i : Ip ≡ x = cc in ap kind_number (sym i) ∙ sym (eqb-true n ip_kind p)
    go false p true q f = let i : As ≡ x = cc in ap kind_number (sym i) ∙ sym (eqb-true n as_kind q)
    go false p false q f = let z : ◌≡◌ {A = ℕ} 0 1 = cc in absurd (omega arith)

-- and one that is not is no kind's
pub told_none : (n : ℕ) (x : UnknownKind) → kind_told n ≡ Err x → (n ≡ mixed_kind → ⊥) → as_kind < n
told_none n x e m = go (eqb n ip_kind) refl (eqb n as_kind) refl e m
  where
    go : (a : Bool) → eqb n ip_kind ≡ a → (b : Bool) → eqb n as_kind ≡ b → ◌≡◌ {A = Result Kind UnknownKind} (pick a (Ok Ip) (pick b (Ok As) (Err (record { 0 = n })))) (Err x) → (n ≡ mixed_kind → ⊥) → as_kind < n
    go true p b q f m = let z : ◌≡◌ {A = ℕ} 0 1 = cc in absurd (omega arith)
    go false p true q f m = let z : ◌≡◌ {A = ℕ} 0 1 = cc in absurd (omega arith)
    go false p false q f m = let a = eqb-false n ip_kind p in let b = eqb-false n as_kind q in omega arith
