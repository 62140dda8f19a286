use Rattle.arena_lock.specs.Turns.{IsReady}
use Rattle.arena_main.proofs.tests.lock.threads.look_on.Given as goal

abbrev pub invariant-loop : goal.invariant-loop
invariant-loop g l = IsReady l.lobby l.pass
