-- A line, a certificate and those above it: what its rows after inheritance hold, in which spaces they are, and that they are tidy. Assumes nothing.
--     listing_tidy             what a proper certificate lists and inherits is tidy
--     line_holds, holds_line   the rows after inheritance hold what the certificate holds, both ways
--     rows_list, rows_tidy     below an issuer whose rows all list and are tidy, they all list and are tidy
--     Passes, Passing          what the check asks of a certificate, and of all of a line
--     line_lists, line_tidy    in a line that passes the rows after inheritance all list, and are tidy,
--     line_space, space_line   and are in the spaces that the certificate has, both ways
use mathlib.Core.Path.{◌≡◌, sym}
use mathlib.Core.List.{List, [], ◌∷◌, ◌++◌}
use mathlib.Core.Logic.{◌⊎◌, inl, inr}
use Prim.Native.Nat.{ℕ, ◌≤◌, ◌<◌}
use native.Mathlib.Omega.{arith}
use lib.ListN.{length}
use Rattle.table.specs.Sizes.{max_rows}
use Rattle.table.specs.Spaces.{ip_kind, as_kind, kind_of}
use Rattle.table.specs.Rows.{Row}
use Rattle.table.specs.Tables.{Follows, by_space, Tidy, Fitting, Each}
use Rattle.table.specs.Holdings.{Holds, Inherits}
use Rattle.table.proofs.laws.Spaces.{IpSpace, AsSpace, kind_ip, kind_as}
use Rattle.path.specs.Inherit.{Keeps}
use Rattle.path.specs.Demand.{Extension, absent, carries, Certificate, carried_rows, listing, Held, HasSpace, SpaceOf, Present, Inheriting, rows_at, Fits, Proper}
use Rattle.path.proofs.laws.Walks.{AllListed}
use Rattle.path.proofs.laws.Inherits.{resolved_keeps, tidy_marked, resolved_lists, resolved_tidy}
use Rattle.path.proofs.laws.Lacking.{resolved_was, resolved_has}

-- WHAT A CERTIFICATE LISTS AND INHERITS IS TIDY

-- an IP row's space is below an AS row's
apart : (r q : Row) → Fitting ip_kind r → Fitting as_kind q → Follows r q
apart r q f g = by_space (go f.own g.own)
  where
    spaces : IpSpace r.space → AsSpace q.space → r.space < q.space
    spaces (inl h) (inl e) = omega arith
    spaces (inl h) (inr e) = omega arith
    spaces (inr h) (inl e) = omega arith
    spaces (inr h) (inr e) = omega arith

    go : (ip_kind ≡ 0) ⊎ (ip_kind ≡ kind_of r.space) → (as_kind ≡ 0) ⊎ (as_kind ≡ kind_of q.space) → r.space < q.space
    go (inl e) d = absurd (omega arith)
    go (inr e) (inl d) = absurd (omega arith)
    go (inr e) (inr d) = spaces ((kind_ip r.space).0 (sym e)) ((kind_as q.space).0 (sym d))

-- IP rows, then AS rows
joined : {xs ys : List Row} → Tidy xs → Each (Fitting ip_kind) xs → Tidy ys → Each (Fitting as_kind) ys → Tidy (xs ++ ys)
joined Tidy.none fs t gs = t
joined (Tidy.one s) fs Tidy.none gs = Tidy.one s
joined (Tidy.one s) (Each.more f fs) (Tidy.one u) (Each.more g gs) = Tidy.more s (apart _ _ f g) (Tidy.one u)
joined (Tidy.one s) (Each.more f fs) (Tidy.more u n t) (Each.more g gs) = Tidy.more s (apart _ _ f g) (Tidy.more u n t)
joined (Tidy.more s n t) (Each.more f fs) u gs = Tidy.more s n (joined t fs u gs)

-- an extension's rows
fits_tidy : {kind : ℕ} (x : Extension) → Fits kind x → Tidy (carried_rows x) × Each (Fitting kind) (carried_rows x)
fits_tidy absent f = (Tidy.none, Each.none)
fits_tidy (carries rows) f = (f.tidy, f.fitting)

pub listing_tidy : (c : Certificate) → Proper c → Tidy (listing c)
listing_tidy c p =
    let (t, f) = fits_tidy {kind = ip_kind} c.ip p.ip in
    let (u, g) = fits_tidy {kind = as_kind} c.ids p.ids in
    joined t f u g

-- WHAT THE ROWS AFTER INHERITANCE HOLD

module _ {s n : ℕ} {issuer : List Row} where
  -- what the rows list is kept,
  listed_keeps : {rows : List Row} → Holds s n rows → Keeps issuer s n rows
  listed_keeps (Holds.here h) = Keeps.listed h
  listed_keeps (Holds.there h) = Keeps.later (listed_keeps h)

  -- and what they inherit
  inherited_keeps : {rows : List Row} → Inherits s rows → Holds s n issuer → Keeps issuer s n rows
  inherited_keeps (Inherits.here e q) h = Keeps.inherited e q h
  inherited_keeps (Inherits.there i) h = Keeps.later (inherited_keeps i h)

  -- and nothing else
  keeps_was : {rows : List Row} → Keeps issuer s n rows → Holds s n rows ⊎ (Inherits s rows × Holds s n issuer)
  keeps_was (Keeps.listed h) = inl (Holds.here h)
  keeps_was (Keeps.inherited e q h) = inr (Inherits.here e q, h)
  keeps_was (Keeps.later {r = r} {rs = rs} k) = go (keeps_was k)
    where
      go : Holds s n rs ⊎ (Inherits s rs × Holds s n issuer) → Holds s n (r ∷ rs) ⊎ (Inherits s (r ∷ rs) × Holds s n issuer)
      go (inl h) = inl (Holds.there h)
      go (inr h) = inr (Inherits.there h.0, h.1)

-- what a certificate holds, its rows after inheritance hold
pub line_holds : {s n : ℕ} {line : List Certificate} → Held s n line → Holds s n (rows_at line)
line_holds {s} {n} (Held.listed {c = c} {line = l} h) = (resolved_keeps (rows_at l) s n (listing c)).0 (listed_keeps h)
line_holds {s} {n} (Held.inherited {c = c} {line = l} i h) = (resolved_keeps (rows_at l) s n (listing c)).0 (inherited_keeps i (line_holds h))

-- and nothing else
pub holds_line : {s n : ℕ} (line : List Certificate) → Holds s n (rows_at line) → Held s n line
holds_line [] h = elim h [ ]
holds_line {s} {n} (c ∷ line) h = go (keeps_was ((resolved_keeps (rows_at line) s n (listing c)).1 h)) (λ k. holds_line line k)
  where
    go : Holds s n (listing c) ⊎ (Inherits s (listing c) × Holds s n (rows_at line)) → (Holds s n (rows_at line) → Held s n line) → Held s n (c ∷ line)
    go (inl k) f = Held.listed k
    go (inr k) f = Held.inherited k.0 (f k.1)

-- THEY ALL LIST, AND ARE TIDY

module _ (line : List Certificate) (c : Certificate) (p : Proper c) where
  pub rows_list : AllListed (rows_at line) → AllListed (rows_at (c ∷ line))
  rows_list l = resolved_lists (rows_at line) (listing c) l (tidy_marked (listing c) (listing_tidy c p))

  pub rows_tidy : Tidy (rows_at line) → AllListed (rows_at line) → Tidy (rows_at (c ∷ line))
  rows_tidy t l = resolved_tidy (rows_at line) (listing c) (listing_tidy c p) t l

-- A LINE THAT PASSES

-- what the check asks of one certificate: the three conditions, the third for its issuer only, and at most 512 rows after inheritance
pub record Passes (c : Certificate) (line : List Certificate) : Type 0 where
  pub present : Present c line
  pub inheriting : Inheriting c line
  pub few : length (rows_at (c ∷ line)) ≤ max_rows
  pub contained : (s n : ℕ) → 0 < length line → Held s n (c ∷ line) → Held s n line

-- and of every certificate of a line
pub data Passing : List Certificate → Type 0 where
  none : Passing []
  more : {c : Certificate} {line : List Certificate} → Proper c → Passes c line → Passing line → Passing (c ∷ line)

-- the rows after inheritance all list,
pub line_lists : {line : List Certificate} → Passing line → AllListed (rows_at line)
line_lists Passing.none = Each.none
line_lists (Passing.more {c = c} {line = l} p h a) = rows_list l c p (line_lists a)

-- are tidy,
pub line_tidy : {line : List Certificate} → Passing line → Tidy (rows_at line)
line_tidy Passing.none = Tidy.none
line_tidy (Passing.more {c = c} {line = l} p h a) = rows_tidy l c p (line_tidy a) (line_lists a)

-- and are in the spaces that the certificate has
pub line_space : {s : ℕ} {line : List Certificate} → Passing line → SpaceOf s line → HasSpace s (rows_at line)
line_space Passing.none h = absurd h
line_space (Passing.more p h a) k = resolved_has (λ t i. line_space a (h.inheriting t i)) k

pub space_line : {s : ℕ} (line : List Certificate) → HasSpace s (rows_at line) → SpaceOf s line
space_line [] h = elim h [ ]
space_line (c ∷ line) h = resolved_was (rows_at line) (listing c) h
