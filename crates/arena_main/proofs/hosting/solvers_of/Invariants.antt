use Rattle.std.specs.Prelude.{◌<◌, vec_len}
use Rattle.arena_main.proofs.hosting.solvers_of.Given as goal

-- there is a solver
abbrev pub invariant-adding : goal.invariant-adding
invariant-adding g l = 0 < vec_len l.solvers
