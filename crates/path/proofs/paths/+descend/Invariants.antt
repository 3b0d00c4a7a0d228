-- how many certificates are left
use Rattle.path.proofs.paths.+descend.Given as goal

abbrev pub decreases-descend : goal.decreases-descend
decreases-descend l = l.left
