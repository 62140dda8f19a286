use Rattle.std.proofs.Common.{◌≡◌, ℕ}
use Rattle.workload.specs.Numbers.{state}
use Rattle.workload.specs.Setups.{players_of}
use Rattle.workload.proofs.setup.players.Given as goal

-- so many players are made, each of his draw
abbrev pub invariant-making : goal.invariant-making
invariant-making l = record {
  drawn : (seed : ℕ) → l.fn.numbers.state ≡ state seed 0 → l.numbers.state ≡ state seed l.p;
  players : (seed : ℕ) → l.fn.numbers.state ≡ state seed 0 → l.made.items ≡ players_of seed l.p;
}
