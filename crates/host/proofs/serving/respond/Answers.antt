use Rattle.std.proofs.Common.{refl, ap, subst, ℕ}
use Rattle.host.specs.Responses.{bytes_of}
use Rattle.host.specs.Steps.{Sent}
use Rattle.host.proofs.Replying.{said_code, sends_said}
use Rattle.host.proofs.serving.respond.Goals as goal

pub send-requires : goal.send-requires
send-requires g c = said_code _ c.in-Ok.ensures.comes.deed c.in-Ok.said c.in-Ok.ensures.comes.says

pub returns-in-Ok-clause-replies : goal.returns-in-Ok-clause-replies
returns-in-Ok-clause-replies g c =
    let p = c.in-Ok.ensures.comes in
    record {
      deed = p.deed;
      asked = p.asked;
      sends = sends_said _ c.args.close c.args.head.now p.deed c.answer.new.pass c.in-Ok.said _ _ _ _ c.send.result p.says
          (subst (λ (n : ℕ). Sent (g.K.Sink.held c.args.sink.now) (g.K.Sink.held c.send.new.sink) (g.K.Sink.faults c.args.sink.now) (g.K.Sink.faults c.send.new.sink) (bytes_of n c.args.close c.in-Ok.said) c.send.result) c.seen.ensures c.send.ensures.sent);
    }

pub returns-in-Err-clause-replies : goal.returns-in-Err-clause-replies
returns-in-Err-clause-replies g c =
    let p = c.in-Err.ensures.comes in
    record { deed = p.deed; asked = p.asked; sends = refl }
