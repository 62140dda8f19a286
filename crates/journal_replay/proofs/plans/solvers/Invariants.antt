use Rattle.std.proofs.Common.{◌<◌, length}
use Rattle.journal_replay.proofs.plans.solvers.Given as goal

-- there is one
abbrev pub invariant-solvers : goal.invariant-solvers
invariant-solvers l = 0 < length l.made.items
