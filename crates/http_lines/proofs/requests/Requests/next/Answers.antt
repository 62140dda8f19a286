use Rattle.std.proofs.Common.{◌+◌, List, ℕ, subst}
use Rattle.http_lines.specs.Steps.{Grew}
use Rattle.http_lines.specs.declared.request.TheConstants.{HEAD_LIMIT, BODY_LIMIT}
use Rattle.http_lines.proofs.Filling.{AnswersFirst-grew, GaveNoRequest-grew, TakesAtMost-grew, answers_no_head}
use Rattle.http_lines.proofs.requests.Requests.next.Goals as goal

pub returns-in-Ok-Some-clause-first : goal.returns-in-Ok-Some-clause-first
returns-in-Ok-Some-clause-first g c =
    let held' = c.fill_head.new.ahead in
    let left = g.S.Source.left c.args.source.now in
    let left' = g.S.Source.left c.fill_head.new.source in
    let grew = subst (λ (l : List ℕ). Grew l held' left left') c.self.view_is c.fill_head.ensures.grew in
    AnswersFirst-grew c.args.self.now held' left left' _ c.read_request.result grew c.read_request.ensures.first

pub returns-in-Ok-Some-clause-no_request : goal.returns-in-Ok-Some-clause-no_request
returns-in-Ok-Some-clause-no_request g c fault =
    let held' = c.fill_head.new.ahead in
    let left = g.S.Source.left c.args.source.now in
    let left' = g.S.Source.left c.fill_head.new.source in
    let grew = subst (λ (l : List ℕ). Grew l held' left left') c.self.view_is c.fill_head.ensures.grew in
    GaveNoRequest-grew c.args.self.now held' left left' _ grew (c.read_request.ensures.none fault)

pub returns-in-Ok-Some-clause-taken : goal.returns-in-Ok-Some-clause-taken
returns-in-Ok-Some-clause-taken g c =
    let held' = c.fill_head.new.ahead in
    let left = g.S.Source.left c.args.source.now in
    let left' = g.S.Source.left c.fill_head.new.source in
    let grew = subst (λ (l : List ℕ). Grew l held' left left') c.self.view_is c.fill_head.ensures.grew in
    TakesAtMost-grew (HEAD_LIMIT + BODY_LIMIT) c.args.self.now held' c.read_request.new.ahead left left' _ grew c.read_request.ensures.taken

pub returns-in-Err-clause-first : goal.returns-in-Err-clause-first
returns-in-Err-clause-first g c =
    let held' = c.fill_head.new.ahead in
    let left = g.S.Source.left c.args.source.now in
    let left' = g.S.Source.left c.fill_head.new.source in
    let grew = subst (λ (l : List ℕ). Grew l held' left left') c.self.view_is c.fill_head.ensures.grew in
    answers_no_head c.args.self.now held' left left' c.in-Err.fault grew c.in-Err.ensures.comes
