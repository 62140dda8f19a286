use Rattle.std.proofs.Common.{◌<◌, None, vec_len}
use Rattle.arena_lock.specs.Turns.{IsReady}
use Rattle.director.specs.Steps.{state_of}
use Rattle.server.specs.Works.{Works}
use Rattle.server.proofs.working.worker.Given as goal

abbrev pub invariant-loop : goal.invariant-loop
invariant-loop g l =
    let moments = g.C.Clock.moments in
    record {
      ready : IsReady l.lobby l.pass;
      solvers : 0 < vec_len l.w.solvers;
      works : Works l.lobby.fixed (state_of l.fn.pass (moments l.fn.w.clock)) (state_of l.pass (moments l.w.clock)) None;
    }
