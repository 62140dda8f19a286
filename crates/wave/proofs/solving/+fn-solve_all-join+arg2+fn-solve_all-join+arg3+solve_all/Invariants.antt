use Rattle.std.proofs.Common.{◌+◌, ◌*◌, length}
use Rattle.wave.proofs.solving.+fn-solve_all-join+arg2+fn-solve_all-join+arg3+solve_all.Given as goal

abbrev pub decreases-join+arg2 : goal.decreases-join+arg2
decreases-join+arg2 g l = 2 * length l.left.now + 1

abbrev pub decreases-join+arg3 : goal.decreases-join+arg3
decreases-join+arg3 g l = 2 * length l.right.now + 1

abbrev pub decreases-solve_all : goal.decreases-solve_all
decreases-solve_all g l = 2 * length l.solvers.now
