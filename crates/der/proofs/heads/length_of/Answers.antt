-- `der::heads::length_of` meets its contract. Assumes nothing.
use Rattle.der.specs.Opening.{length_of}
use Rattle.number.proofs.Picks.{picks, via}
use Rattle.der.proofs.Openings.{fitted_as, pairs}
use Rattle.der.proofs.heads.length_of.Goals as goal

pub returns-then-s-lt2 : goal.returns-then-s-lt2
unfolding length_of
returns-then-s-lt2 c = search (fitted_as, picks, via, pairs) depth 12 fits 20000

pub returns-then-a-lt128 : goal.returns-then-a-lt128
unfolding length_of
returns-then-a-lt128 c = search (fitted_as, picks, via, pairs) depth 12 fits 20000

pub returns-then-s-lt3 : goal.returns-then-s-lt3
unfolding length_of
returns-then-s-lt3 c = search (fitted_as, picks, via, pairs) depth 12 fits 20000

pub returns-then-b-lt128 : goal.returns-then-b-lt128
unfolding length_of
returns-then-b-lt128 c = search (fitted_as, picks, via, pairs) depth 12 fits 20000

pub returns-then-a-eq129 : goal.returns-then-a-eq129
unfolding length_of
returns-then-a-eq129 c = search (fitted_as, picks, via, pairs) depth 12 fits 20000

pub returns-then-s-lt4 : goal.returns-then-s-lt4
unfolding length_of
returns-then-s-lt4 c = search (fitted_as, picks, via, pairs) depth 12 fits 20000

pub returns-then-n-lt256 : goal.returns-then-n-lt256
unfolding length_of
returns-then-n-lt256 c = search (fitted_as, picks, via, pairs) depth 12 fits 20000

pub returns-then-a-eq130 : goal.returns-then-a-eq130
unfolding length_of
returns-then-a-eq130 c = search (fitted_as, picks, via, pairs) depth 12 fits 20000

pub returns : goal.returns
unfolding length_of
returns c = search (fitted_as, picks, via, pairs) depth 12 fits 20000
