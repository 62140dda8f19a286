use Rattle.std.proofs.Common.{◌<◌}
use Rattle.arena_lock.specs.Turns.{IsReady}
use Rattle.arena_main.proofs.tests.lock.threads.come_and_go.Given as goal

abbrev pub invariant-loop-now : goal.invariant-loop-now
invariant-loop-now g l = (l.player < 4) × IsReady l.lobby l.pass
