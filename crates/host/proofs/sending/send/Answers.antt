use Rattle.std.proofs.Common.{ap}
use Rattle.host.proofs.Replying.{sent_is}
use Rattle.host.proofs.sending.send.Goals as goal

pub returns-clause-sent : goal.returns-clause-sent
returns-clause-sent g c =
    let w = c.write_response.ensures in
    sent_is _ _ _ _ _ c.write_response.result w.written w.fault w.beginning (λ none. ap g.K.Sink.held (w.nothing none))
