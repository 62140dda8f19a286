use Rattle.director.specs.Steps.{state_of}
use Rattle.server.proofs.Reasons.{works_on}
use Rattle.server.proofs.working.serve_and_direct.Goals as goal

pub returns-clause-works : goal.returns-clause-works
returns-clause-works g c =
    let moments = g.C.Clock.moments in
    works_on c.args.lobby.now.fixed
    (state_of c.args.pass.now (moments c.args.w.now.clock))
    (state_of c.serve_next.new.pass (moments c.serve_next.new.clock))
    (state_of c.direct.new.pass (moments c.direct.new.clock))
    c.direct.result c.serve_next.ensures.works c.direct.ensures.works
