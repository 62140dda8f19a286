use Rattle.std.proofs.Common.{[], arith}
use Rattle.host.specs.Talk.{around}
use Rattle.host.proofs.Talking.{ends_starved, nothing_answered}
use Rattle.host.proofs.serving.serve.Goals as goal

pub returns-in_default-clause-talk : goal.returns-in_default-clause-talk
returns-in_default-clause-talk g c =
    let s = c.args.lobby.now.fixed in
    let keys = c.args.keys.now in
    let start = around c.args.pass.now (g.C.Clock.moments c.args.clock.now) (g.S.Source.left c.args.source.now) (g.S.Source.faults c.args.source.now) (g.K.Sink.held c.args.sink.now) (g.K.Sink.faults c.args.sink.now) in
    ends_starved c.laws_of_requests.ensures s keys start start [] 0 (omega arith) (nothing_answered s keys start)

pub returns-in_default-new-clause-talk : goal.returns-in_default-new-clause-talk
returns-in_default-new-clause-talk g c =
    let s = c.args.lobby.now.fixed in
    let keys = c.args.keys.now in
    let start = around c.args.pass.now (g.C.Clock.moments c.args.clock.now) (g.S.Source.left c.args.source.now) (g.S.Source.faults c.args.source.now) (g.K.Sink.held c.args.sink.now) (g.K.Sink.faults c.args.sink.now) in
    ends_starved c.laws_of_requests.ensures s keys start start [] 0 (omega arith) (nothing_answered s keys start)
