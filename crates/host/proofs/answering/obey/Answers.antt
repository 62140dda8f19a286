use Rattle.std.proofs.Common.{◌≡◌, Some, subst, sym}
use Rattle.std.specs.Prelude.{IfOk}
use Rattle.entries.specs.declared.setup.Setup.{Setup}
use Rattle.arena_history.specs.Stamps.{stamp_of}
use Rattle.api.specs.Bodies.{IsShownReply}
use Rattle.host.specs.Responses.{said}
use Rattle.host.specs.Steps.{deed_of_reply}
use Rattle.host.proofs.Shown.{shown_by_command}
use Rattle.host.proofs.Turning.{commanded}
use Rattle.host.proofs.answering.obey.Goals as goal

pub say_reply-requires-clause-shown : goal.say_reply-requires-clause-shown
say_reply-requires-clause-shown g c =
    subst (λ (s : Setup). IfOk c.command-outcome.result (IsShownReply s)) (sym c.setup.ensures.setup)
    (shown_by_command c.laws_of_shown.ensures c.args.lobby.now.fixed c.setup.ensures.good c.args.pass.now c.command-outcome.new.pass c.now-now.result c.args.command c.command-outcome.result
    c.requires.player c.command-outcome.ensures.ready.2 c.command-outcome.ensures.answer)

pub returns-clause-comes : goal.returns-clause-comes
returns-clause-comes g c = λ keys request asks.
    let p = c.command-outcome.ensures.answer in
    let t = stamp_of p.found c.now-now.result in
    record {
      deed = deed_of_reply t c.args.command c.command-outcome.result;
      asked = commanded c.laws_of_turns.ensures c.args.lobby.now.fixed keys _ _ c.now-now.result c.args.pass.now c.command-outcome.new.pass request c.args.command c.command-outcome.result
          asks c.command-outcome.ensures.ready.2 c.now-now.ensures p;
      says = subst (λ (s : Setup). IfOk c.say_reply.result (λ x. said s (deed_of_reply t c.args.command c.command-outcome.result) ≡ Some x)) c.setup.ensures.setup
          (c.say_reply.ensures t c.args.command);
    }
