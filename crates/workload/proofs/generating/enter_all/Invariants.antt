use Rattle.std.proofs.Common.{◌≡◌, ◌≤◌, ◌-◌, []}
use Rattle.arena_core.specs.Held.{past}
use Rattle.arena_history.specs.Stamps.{last_stamp}
use Rattle.workload.specs.Drafts.{going, with_all}
use Rattle.workload.specs.Workloads.{enters}
use Rattle.workload.proofs.Entered.{enters_from}
use Rattle.workload.proofs.generating.enter_all.Given as goal

-- so many have entered, and the list comes to what it comes to with those who are left
abbrev pub invariant-entering : goal.invariant-entering
invariant-entering l = record {
  setup : l.arena.setup ≡ l.fn.arena.setup;
  last : last_stamp l.arena.entries ≤ 0;
  starts : (past l.arena).starts ≡ [];
  left : with_all l.fn.arena.setup (going []) (enters l.players) ≡ with_all l.fn.arena.setup (going l.arena.entries) (enters_from l.p (l.players - l.p));
}
