use Rattle.std.proofs.Common.{◌≤◌, length}
use Rattle.arena_lock.specs.Turns.{IsReady}
use Rattle.host.specs.Steps.{SoFar}
use Rattle.host.specs.Talk.{around}
use Rattle.host.proofs.serving.serve_requests.Given as goal

abbrev pub invariant-loop-before : goal.invariant-loop-before
invariant-loop-before g l =
    let source = g.S.Source in
    let sink = g.K.Sink in
    let clock = g.C.Clock in
    record {
      ready : IsReady l.desk.lobby.now l.pass;
      so : SoFar l.desk.lobby.now.fixed l.desk.keys.now
          (around l.fn.pass (clock.moments l.fn.clock) (source.left l.fn.source) (source.faults l.fn.source) (sink.held l.fn.sink) (sink.faults l.fn.sink))
          (around l.pass (clock.moments l.clock) (source.left l.source) (source.faults l.source) (sink.held l.sink) (sink.faults l.sink))
          l.requests l.before;
      few : length l.requests ≤ 8192;
    }
