use Rattle.arena_lock.specs.Turns.{IsReady}
use Rattle.arena_main.proofs.tests.lock.commits.enter_all.Given as goal

abbrev pub invariant-loop-player : goal.invariant-loop-player
invariant-loop-player g l = IsReady l.lobby l.pass
