use Rattle.std.specs.Prelude.{◌≡◌, ◌≤◌, ◌<◌, All, length, vec_len}
use Rattle.arena_main.proofs.hosting.workers_at.Given as goal

-- there are as many workers as turns were made, and each has a solver
abbrev pub invariant-making : goal.invariant-making
invariant-making g l = (length l.workers.items ≡ l.counter) × (l.counter ≤ l.count) × All (λ worker. 0 < vec_len worker.solvers) l.workers.items
