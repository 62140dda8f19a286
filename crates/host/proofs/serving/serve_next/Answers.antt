use Rattle.std.proofs.Common.{◌≡◌, ℕ, ◌+◌, Bool, Option, Some, Ok, Err, refl, sym, ap, subst, ◌∙◌, length}
use Rattle.std.specs.Prelude.{MatchOption}
use Rattle.http_lines.specs.Reader.{AnswersFirst, still_ahead}
use Rattle.host.specs.declared.ended.Ended.{Ended}
use Rattle.host.specs.Steps.{AnswersFault, Replies, SoFar}
use Rattle.host.specs.Talk.{Talk, around}
use Rattle.host.proofs.Talking.{ends_in_fault, ends_served, goes_on_or_ends}
use Rattle.host.proofs.serving.serve_next.Goals as goal

pub returns-in-Ok-Request-clause-steps : goal.returns-in-Ok-Request-clause-steps
returns-in-Ok-Request-clause-steps g c = λ start so.
    let s = c.args.desk.now.lobby.now.fixed in
    let keys = c.args.desk.now.keys.now in
    let source = g.S.Source in
    let sink = g.K.Sink in
    let clock = g.C.Clock in
    let head = c.in-Ok-Request.head in
    let ahead = c.args.requests.now in
    let ahead' = c.next.new.self in
    let left = source.left c.args.source.now in
    let left' = source.left c.next.new.source in
    let old = around c.args.pass.now (clock.moments c.args.clock.now) left (source.faults c.args.source.now) (sink.held c.args.sink.now) (sink.faults c.args.sink.now) in
    let new = around c.respond-outcome.new.pass (clock.moments c.respond-outcome.new.clock) left' (source.faults c.next.new.source) (sink.held c.respond-outcome.new.sink) (sink.faults c.respond-outcome.new.sink) in
    let first = subst (AnswersFirst (still_ahead ahead left) (still_ahead ahead' left')) (c.in-Ok-Request.is ∙ ap Ok c.in-Ok-Request.field-0-is) c.next.ensures.first in
    let replies = subst (λ (close : Bool). Replies s keys close head old.moments new.moments old.pass new.pass old.held new.held old.writes new.writes c.respond-outcome.result) c.is_last-close.ensures c.respond-outcome.ensures.replies in
    subst (λ (o : Option Ended). MatchOption o (SoFar s keys start new ahead' (c.args.before + 1)) (λ ended. Talk s keys start new ended)) (sym c.ended_behind.ensures)
    (goes_on_or_ends c.laws_of_requests.ensures s keys start old ahead ahead' c.args.before c.requires.fewer so left' new.reads c.next.ensures.kept new.held new.writes c.respond-outcome.ensures.kept
    head first c.next.ensures.taken new.pass new.moments c.respond-outcome.result replies)

pub returns-in-Ok-End-clause-steps : goal.returns-in-Ok-End-clause-steps
returns-in-Ok-End-clause-steps g c = λ start so.
    let source = g.S.Source in
    let sink = g.K.Sink in
    let clock = g.C.Clock in
    let ahead = c.args.requests.now in
    let ahead' = c.next.new.self in
    let left = source.left c.args.source.now in
    let left' = source.left c.next.new.source in
    let old = around c.args.pass.now (clock.moments c.args.clock.now) left (source.faults c.args.source.now) (sink.held c.args.sink.now) (sink.faults c.args.sink.now) in
    let first = subst (AnswersFirst (still_ahead ahead left) (still_ahead ahead' left')) (c.in-Ok-End.is ∙ ap Ok c.in-Ok-End.field-0-is) c.next.ensures.first in
    ends_served c.laws_of_requests.ensures c.args.desk.now.lobby.now.fixed c.args.desk.now.keys.now start old ahead ahead' c.args.before c.requires.fewer so left' (source.faults c.next.new.source)
    c.next.ensures.kept first

pub returns-in-Err-clause-steps : goal.returns-in-Err-clause-steps
returns-in-Err-clause-steps g c = λ start so.
    let source = g.S.Source in
    let sink = g.K.Sink in
    let clock = g.C.Clock in
    let f = c.in-Err.fault in
    let ahead = c.args.requests.now in
    let ahead' = c.next.new.self in
    let left = source.left c.args.source.now in
    let left' = source.left c.next.new.source in
    let old = around c.args.pass.now (clock.moments c.args.clock.now) left (source.faults c.args.source.now) (sink.held c.args.sink.now) (sink.faults c.args.sink.now) in
    let held' = sink.held c.answer_fault.new.sink in
    let writes' = sink.faults c.answer_fault.new.sink in
    let first = subst (AnswersFirst (still_ahead ahead left) (still_ahead ahead' left')) c.in-Err.is c.next.ensures.first in
    let answers = subst (λ (n : ℕ). AnswersFault n f old.held held' old.writes writes' c.answer_fault.result) c.seen.ensures c.answer_fault.ensures.answers in
    ends_in_fault c.laws_of_requests.ensures c.args.desk.now.lobby.now.fixed c.args.desk.now.keys.now start old ahead ahead' c.args.before c.requires.fewer so left' (source.faults c.next.new.source)
    c.next.ensures.kept held' writes' c.answer_fault.ensures.kept f first (λ is. c.next.ensures.fault (c.in-Err.is ∙ ap Err is)) (λ is. c.next.ensures.no_request (c.in-Err.is ∙ ap Err is)) c.answer_fault.result answers
