use Rattle.std.proofs.Common.{◌<◌, None, Some, vec_len, arith}
use Rattle.director.specs.Steps.{state_of}
use Rattle.server.proofs.Reasons.{works_not, works_on}
use Rattle.server.proofs.working.worker.Goals as goal

pub loop-init : goal.loop-init
loop-init g c = record {
  ready = c.requires.ready;
  solvers = c.requires.solvers;
  works = works_not c.args.lobby.now.fixed (state_of c.args.pass.now (g.C.Clock.moments c.args.w.now.clock));
}

pub returns-in-Some-end-clause-works : goal.returns-in-Some-end-clause-works
returns-in-Some-end-clause-works g c =
    let moments = g.C.Clock.moments in
    works_on c.args.lobby.now.fixed
    (state_of c.args.pass.now (moments c.args.w.now.clock))
    (state_of c.loop.pass (moments c.loop.w.clock))
    (state_of c.serve_and_direct-end.new.pass (moments c.serve_and_direct-end.new.w.clock))
    (Some c.in-Some-end.end) c.loop.invariant.works c.in-Some-end.ensures.works

pub loop-preserved : goal.loop-preserved
loop-preserved g c =
    let moments = g.C.Clock.moments in
    let before : 0 < vec_len c.loop.w.solvers = c.loop.invariant.solvers in
    record {
      ready = c.serve_and_direct-end.ensures.ready;
      solvers = omega (arith, c.serve_and_direct-end.ensures.solvers);
      works = works_on c.args.lobby.now.fixed
          (state_of c.args.pass.now (moments c.args.w.now.clock))
          (state_of c.loop.pass (moments c.loop.w.clock))
          (state_of c.serve_and_direct-end.new.pass (moments c.serve_and_direct-end.new.w.clock))
          None c.loop.invariant.works c.in_default.ensures.works;
    }
