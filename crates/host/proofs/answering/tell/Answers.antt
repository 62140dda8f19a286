use Rattle.std.proofs.Common.{◌≡◌, Some, subst, sym}
use Rattle.std.specs.Prelude.{IfOk}
use Rattle.entries.specs.declared.setup.Setup.{Setup}
use Rattle.arena_history.specs.Stamps.{stamp_of}
use Rattle.api.specs.Bodies.{IsShownAnswer}
use Rattle.host.specs.Responses.{said}
use Rattle.host.specs.Steps.{deed_of_answer}
use Rattle.host.proofs.Shown.{shown_by_question}
use Rattle.host.proofs.Turning.{questioned}
use Rattle.host.proofs.answering.tell.Goals as goal

pub say_answer-requires-clause-shown : goal.say_answer-requires-clause-shown
say_answer-requires-clause-shown g c =
    subst (λ (s : Setup). IfOk c.query-outcome.result (IsShownAnswer s)) (sym c.setup.ensures.setup)
    (shown_by_question c.laws_of_shown.ensures c.args.lobby.now.fixed c.setup.ensures.good c.args.pass.now c.query-outcome.new.pass c.now-now.result c.args.query c.query-outcome.result
    c.requires.player c.query-outcome.ensures.ready.2 c.query-outcome.ensures.answer)

pub returns-clause-comes : goal.returns-clause-comes
returns-clause-comes g c = λ keys request asks.
    let p = c.query-outcome.ensures.answer in
    let t = stamp_of p.found c.now-now.result in
    record {
      deed = deed_of_answer t c.args.query c.query-outcome.result;
      asked = questioned c.laws_of_turns.ensures c.args.lobby.now.fixed keys _ _ c.now-now.result c.args.pass.now c.query-outcome.new.pass request c.args.query c.query-outcome.result
          asks c.query-outcome.ensures.ready.2 c.now-now.ensures p;
      says = subst (λ (s : Setup). IfOk c.say_answer.result (λ x. said s (deed_of_answer t c.args.query c.query-outcome.result) ≡ Some x)) c.setup.ensures.setup (c.say_answer.ensures t);
    }
