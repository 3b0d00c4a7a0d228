-- The descent over the values of proper certificates: all of them pass, or the first at fault is named. Assumes nothing.
--     descends                      what the descent gives, from a line that passes
--     passing_right, passing_few    a path whose certificates all pass is right, and has few rows
--     no_fault, no_stop             in a right path with few rows none is at fault, and over it the descent does not stop
--     stop_first                    where it stops is the first certificate at fault
--     pairs_most_lem                    the pairs are at most the row counts added, for each certificate
use mathlib.Core.Path.{◌≡◌, refl, ap}
use mathlib.Core.List.{List, [], ◌∷◌, ◌++◌}
use Prim.Native.Nat.{ℕ, ◌+◌, ◌≤◌, ◌<◌}
use native.Mathlib.Omega.{arith}
use lib.ListN.{length}
use Rattle.table.specs.Sizes.{max_rows}
use Rattle.table.specs.Spaces.{ip_kind, as_kind}
use Rattle.table.specs.Rows.{Row}
use Rattle.der.specs.Parts.{is, isnt}
use Rattle.values.specs.declared.readings.Refused.{Refused}
use Rattle.path.specs.Certificate.{Step, onward}
use Rattle.path.specs.Paths.{descent, below}
use Rattle.path.specs.Demand.{Certificate, Below, Of, Higher, Present, Inheriting, Holding, Right, rows_at, Proper, value_of, values_of, Few, pairs_at, pairs_most, line_of, last, Fault, First}
use Rattle.path.proofs.laws.Walks.{pairs_few}
use Rattle.path.proofs.laws.Lines.{Passes, Passing}
use Rattle.path.proofs.laws.Certificates.{above_of, Checks, checks}

-- THE DESCENT

-- below a line, the certificates before the first at fault pass
pub record Stops (line cs : List Certificate) (f : Refused) : Type 0 where
  pub above : List Certificate
  pub certificate : Certificate
  pub rest : List Certificate
  pub is : cs ≡ above ++ (certificate ∷ rest)
  pub passing : Passing (line_of line above)
  pub fault : Fault certificate (line_of line above) f

-- all pass, with the last one's rows and the pairs of all, or it stops
pub data Outcome (line cs : List Certificate) : Step (List Row × ℕ) → Type 0 where
  passes : Passing (line_of line cs) → Outcome line cs (is (rows_at (line_of line cs), pairs_at (line_of line cs)))
  stops : {f : Refused} → Stops line cs f → Outcome line cs (isnt f)

-- with a certificate that passes before the others
outcome_more : {line cs : List Certificate} {c : Certificate} {o : Step (List Row × ℕ)} → Outcome (c ∷ line) cs o → Outcome line (c ∷ cs) o
outcome_more (Outcome.passes a) = Outcome.passes a
outcome_more {c = c} (Outcome.stops s) =
    Outcome.stops
    (record { above = c ∷ s.above; certificate = s.certificate; rest = s.rest; is = ap (λ (l : List Certificate). c ∷ l) s.is; passing = s.passing; fault = s.fault })

-- from a line that passes, over certificates that are proper
pub descends : (line cs : List Certificate) → Passing line → ((c : Certificate) (above : List Certificate) → Below line cs c above → Proper c)
    → Outcome line cs (descent (above_of line) (pairs_at line) (values_of cs))
unfolding descent
descends line [] a p = Outcome.passes a
descends line (c ∷ cs) a p = go (checks c line (p c line Below.here) a) (λ b. descends (c ∷ line) cs b (λ d l u. p d l (Below.later u)))
  where
    go : {o : Step (List Row × ℕ)} → Checks c line o → (Passing (c ∷ line) → Outcome (c ∷ line) cs (descent (above_of (c ∷ line)) (pairs_at (c ∷ line)) (values_of cs)))
        → Outcome line (c ∷ cs) (onward o (λ h. descent (below (above_of line) (value_of ip_kind c.ip, value_of as_kind c.ids) h.0) (pairs_at line + h.1) (values_of cs)))
    go (Checks.passes h e) f = rw e (outcome_more (f (Passing.more (p c line Below.here) h a)))
    go (Checks.at_fault h) f = Outcome.stops (record { above = []; certificate = c; rest = cs; is = refl; passing = a; fault = h })

-- WHO IS RIGHT

-- a line of which a longer one passes
upward : {line : List Certificate} (cs : List Certificate) → Passing (line_of line cs) → Passing line
upward [] a = a
upward (c ∷ cs) a = go (upward cs a)
  where
    go : {d : Certificate} {l : List Certificate} → Passing (d ∷ l) → Passing l
    go (Passing.more p h b) = b

-- each certificate of a path that passes, with those above it
each_passing : {start cs line : List Certificate} {c : Certificate} → Below start cs c line → Passing (line_of start cs) → Passing (c ∷ line)
each_passing (Below.here {cs = cs}) a = upward cs a
each_passing (Below.later b) a = each_passing b a

passes_of : {c : Certificate} {line : List Certificate} → Passing (c ∷ line) → Passes c line
passes_of (Passing.more p h a) = h

-- what is held by each issuer is held all the way up
all_above : {c : Certificate} {line : List Certificate} → Passing (c ∷ line) → Holding c line
all_above (Passing.more p h a) s n top Higher.issuer k = h.contained s n (omega arith) k
all_above (Passing.more p h a) s n top (Higher.further u) k = all_above a s n top u (h.contained s n (omega arith) k)

-- a path whose certificates all pass is right,
pub passing_right : (path : List Certificate) → Passing (last path) → Right path
passing_right path a = record {
  present = λ c line b. (passes_of (each_passing b a)).present;
  inheriting = λ c line b. (passes_of (each_passing b a)).inheriting;
  holding = λ c line b. all_above (each_passing b a);
}

-- and no certificate has more than 512 rows after inheritance
pub passing_few : (path : List Certificate) → Passing (last path) → Few path
passing_few path a c line b = (passes_of (each_passing b a)).few

-- the issuer, if there is one, is above
issuer_above : (c : Certificate) (line : List Certificate) → 0 < length line → Higher (c ∷ line) line
issuer_above c [] z = absurd (omega arith)
issuer_above c (i ∷ line) z = Higher.issuer

-- a certificate as the conditions ask is not at fault
sound_one : {c : Certificate} {line : List Certificate} {f : Refused} → Fault c line f → Present c line → Inheriting c line → Holding c line → length (rows_at (c ∷ line)) ≤ max_rows → ⊥
sound_one (Fault.no_ip h) e i k l = e.ip h
sound_one (Fault.no_ids m h) e i k l = e.ids h
sound_one (Fault.no_space g n) e i k l = n.none (i _ n.inherits)
sound_one (Fault.too_many g h m) e i k l = omega arith
sound_one {c} {line} (Fault.not_held z g h m n) e i k l = n.free (k _ _ line (issuer_above c line z) n.held)

-- a certificate of a path, by what comes before it
part_of : {start : List Certificate} (above : List Certificate) (c : Certificate) (rest : List Certificate) → Below start (above ++ (c ∷ rest)) c (line_of start above)
part_of [] c rest = Below.here
part_of (d ∷ above) c rest = Below.later (part_of above c rest)

-- so in a right path whose certificates have few rows none is at fault,
pub no_fault : (path above : List Certificate) (c : Certificate) (rest : List Certificate) {f : Refused} → path ≡ above ++ (c ∷ rest) → Right path → Few path → Fault c (last above) f → ⊥
no_fault path above c rest e r w h =
    let b : Of path c (last above) = rw e (part_of above c rest) in
    sound_one h (r.present _ _ b) (r.inheriting _ _ b) (r.holding _ _ b) (w _ _ b)

-- and over it the descent does not stop
pub no_stop : (path : List Certificate) (f : Refused) → Right path → Few path → Stops [] path f → ⊥
no_stop path f r w s = no_fault path s.above s.certificate s.rest s.is r w s.fault

-- THE FIRST AT FAULT
pub stop_first : (path : List Certificate) (f : Refused) → Stops [] path f → First path f
stop_first path f s =
    record {
      above = s.above;
      certificate = s.certificate;
      below = s.rest;
      is = s.is;
      right = passing_right s.above s.passing;
      few = passing_few s.above s.passing;
      fault = s.fault;
    }

-- THE COUNT
pub pairs_most_lem : (line : List Certificate) → pairs_at line ≤ pairs_most line
pairs_most_lem [] = omega arith
pairs_most_lem (c ∷ []) = omega arith
pairs_most_lem (c ∷ i ∷ line) = omega (arith, pairs_most_lem (i ∷ line), pairs_few (rows_at (c ∷ i ∷ line)) (rows_at (i ∷ line)))
