-- `path::paths::check` meets its contract. Assumes nothing.
use borrow.Author.Rules.{rules}
use Rattle.std.proofs.lemmas.Result.{err_from_is_err_and}
use Rattle.path.proofs.Anchored.{head_there, was_framed, was_refused, check_first, check_second, check_refused, check_starts, check_leaves}
use Rattle.path.proofs.paths.check.Goals as goal
use Rattle.path.proofs.paths.check.Goals.{then-first-lt-NUMBERS-via-then-first-lt-NUMBERS as one, then-first-lt-NUMBERS-via-else-first-lt-NUMBERS+then-second-lt-NUMBERS as two}

pub returns-then-first-lt-NUMBERS : goal.returns-then-first-lt-NUMBERS
returns-then-first-lt-NUMBERS c =
    elim c.then-first-lt-NUMBERS.branch [
      | one w ↦ search (check_first, rules)
      | two w ↦ search (check_second, rules)
    ]

pub returns-in_err-count : goal.returns-in_err-count
returns-in_err-count c =
    let p = err_from_is_err_and c.from_residual.result c.from_residual.ensures.1 in
    let (r, q, e) = was_refused c.frame.result c.map_err.result c.map_err.ensures.cases _ c.in_err-count.was in
    rw (p.1, p.2) (search (check_refused, q, e, rules))

pub slice_bounds-descend_all-count : goal.slice_bounds-descend_all-count
slice_bounds-descend_all-count c = let f = was_framed c.frame.result c.map_err.result c.map_err.ensures.cases _ c.in_ok-count.was in search (head_there, rules)

pub slice_bounds-descend_all-start : goal.slice_bounds-descend_all-start
slice_bounds-descend_all-start c = let f = was_framed c.frame.result c.map_err.result c.map_err.ensures.cases _ c.in_ok-count.was in search (head_there, rules)

pub descend_all-requires : goal.descend_all-requires
descend_all-requires c = let f = was_framed c.frame.result c.map_err.result c.map_err.ensures.cases _ c.in_ok-count.was in search (check_starts, rules)

pub returns : goal.returns
returns c = let f = was_framed c.frame.result c.map_err.result c.map_err.ensures.cases _ c.in_ok-count.was in search (check_leaves, rules)
