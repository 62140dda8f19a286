use Rattle.std.proofs.Common.{sym, ◌∙◌, subst}
use Rattle.host.specs.Steps.{AnswersFault}
use Rattle.host.proofs.Replying.{answers_said, answers_unsaid}
use Rattle.host.proofs.sending.answer_fault.Goals as goal

pub returns-in-None-clause-answers : goal.returns-in-None-clause-answers
returns-in-None-clause-answers g c =
    answers_unsaid c.args.seen c.args.fault _ _ _ c.ended_by.result (sym c.error_of.ensures ∙ c.in-None.is) c.ended_by.ensures

pub returns-in-Some-clause-answers : goal.returns-in-Some-clause-answers
returns-in-Some-clause-answers g c =
    subst (AnswersFault c.args.seen c.args.fault _ _ _ _) (sym c.ended_after.ensures)
    (answers_said c.args.seen c.args.fault c.in-Some.error _ _ _ _ c.send_error-outcome.result (sym c.error_of.ensures ∙ c.in-Some.is) c.send_error-outcome.ensures.sent)
