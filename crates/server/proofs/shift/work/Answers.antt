use Rattle.director.specs.Steps.{state_of}
use Rattle.server.proofs.Reasons.{worked}
use Rattle.server.proofs.shift.work.Goals as goal

pub returns : goal.returns
returns g c =
    let moments = g.C.Clock.moments in
    worked c.args.lobby.now
    (state_of c.args.shift.now.pass (moments c.args.shift.now.worker.clock))
    (state_of c.worker.new.pass (moments c.worker.new.w.clock))
    c.worker.result c.requires.fresh c.worker.ensures.ready c.worker.ensures.works
