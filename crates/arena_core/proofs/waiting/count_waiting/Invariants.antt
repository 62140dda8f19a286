use Rattle.std.proofs.Common.{◌≡◌, ◌≤◌, take, length}
use Rattle.arena_core.specs.Starting.{waiting}
use Rattle.arena_core.proofs.waiting.count_waiting.Given as goal

abbrev pub invariant-counting : goal.invariant-counting
invariant-counting l = record {
  counted : l.count ≡ length (waiting l.people.places l.plan.n (take l.pair-index l.pair-items));
  few : l.count ≤ l.pair-index;
}
