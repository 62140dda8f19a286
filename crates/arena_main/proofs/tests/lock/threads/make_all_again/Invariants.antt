use Rattle.std.proofs.Common.{◌≡◌, length}
use Rattle.arena_main.proofs.tests.lock.threads.make_all_again.Given as goal

abbrev pub invariant-loop-i : goal.invariant-loop-i
invariant-loop-i l = length l.again.setup.players ≡ 4
