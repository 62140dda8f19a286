use Rattle.std.proofs.Common.{sym, ap, subst, true}
use Rattle.http.specs.StatusCode.{IsStatusCode}
use Rattle.host.specs.declared.said.Said.{Said}
use Rattle.host.specs.Responses.{bytes_of}
use Rattle.host.specs.Steps.{Sent}
use Rattle.host.proofs.Replying.{error_code}
use Rattle.host.proofs.sending.send_error.Goals as goal

pub send-requires : goal.send-requires
send-requires g c = subst (λ (x : Said). IsStatusCode x.status) (sym c.in-Ok.ensures) (error_code c.args.error.now)

pub returns-in-Ok-clause-sent : goal.returns-in-Ok-clause-sent
returns-in-Ok-clause-sent g c = subst (λ (x : Said). Sent (g.K.Sink.held c.args.sink.now) (g.K.Sink.held c.send.new.sink) (g.K.Sink.faults c.args.sink.now) (g.K.Sink.faults c.send.new.sink) (bytes_of c.args.seen true x) c.send.result) c.in-Ok.ensures c.send.ensures.sent
