use Rattle.std.proofs.Common.{◌++◌}
use Rattle.director.specs.Steps.{state_of}
use Rattle.server.proofs.Reasons.{works_by_requests, works_not}
use Rattle.server.proofs.working.serve_next.Goals as goal

pub returns-in-Some-clause-works : goal.returns-in-Some-clause-works
returns-in-Some-clause-works g c =
    let moments = g.C.Clock.moments in
    let talk = c.serve_connection.ensures.talk in
    works_by_requests c.args.lobby.now.fixed c.args.keys.now (moments c.args.clock.now) (moments c.serve_connection.new.clock)
    c.args.pass.now c.serve_connection.new.pass (talk.answered ++ talk.more) talk.asked

pub returns-in_default-clause-works : goal.returns-in_default-clause-works
returns-in_default-clause-works g c =
    works_not c.args.lobby.now.fixed (state_of c.args.pass.now (g.C.Clock.moments c.args.clock.now))
