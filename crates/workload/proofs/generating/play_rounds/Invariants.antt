use Rattle.std.proofs.Common.{◌≡◌, ℕ, ◌+◌, ◌-◌, ◌*◌, ◌<◌, ◌≤◌, length}
use Rattle.std.specs.List.{range_with_len}
use Rattle.arena_core.specs.Held.{past}
use Rattle.arena_history.specs.Stamps.{last_stamp}
use Rattle.workload.specs.Drafts.{going}
use Rattle.workload.specs.Numbers.{state}
use Rattle.workload.specs.Workloads.{with_rounds}
use Rattle.workload.proofs.generating.play_rounds.Given as goal

-- the list comes to what it comes to with the rounds that are left
abbrev pub invariant-playing : goal.invariant-playing
invariant-playing g l = record {
  solvers : 0 < length l.solvers;
  setup : l.arena.setup ≡ l.fn.arena.setup;
  last : last_stamp l.arena.entries ≤ l.r * 100000;
  drawn : (seed : ℕ) → l.fn.numbers.state ≡ state seed (length l.fn.arena.setup.players + length (past l.fn.arena).starts) → l.numbers.state ≡ state seed (length l.fn.arena.setup.players + length (past l.arena).starts);
  left : (seed : ℕ) → l.fn.numbers.state ≡ state seed (length l.fn.arena.setup.players + length (past l.fn.arena).starts) → with_rounds seed l.fn.arena.setup (going l.fn.arena.entries) (range_with_len 0 4) ≡ with_rounds seed l.fn.arena.setup (going l.arena.entries) (range_with_len l.r (4 - l.r));
}
