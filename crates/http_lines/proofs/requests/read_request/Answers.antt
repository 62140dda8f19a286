use Rattle.std.proofs.Common.{arith, ◌≡◌, ◌⊎◌, ◌≤◌, List, ℕ, Err, IfOk, OnErr, length, take, sym, ap, subst, length-take-le}
use Rattle.http_lines.specs.Heads.{Says}
use Rattle.http_lines.specs.Steps.{Skips, SkipsPart}
use Rattle.http_lines.specs.declared.request.Next.TheVariants.{Request}
use Rattle.http_lines.specs.declared.request.NextFault.TheVariants.{OutOfMemory}
use Rattle.http_lines.specs.declared.request.TheConstants.{HEAD_LIMIT}
use Rattle.http_lines.proofs.Searching.{head_within}
use Rattle.http_lines.proofs.Answering.{answers_refused, says_ok, answers_body, gave_body, takes_body}
use Rattle.http_lines.proofs.requests.read_request.Goals as goal

pub slice_bounds-read_head-end : goal.slice_bounds-read_head-end
slice_bounds-read_head-end g c =
    let within = (head_within c.args.ahead.now c.args.len c.requires.head).1 in
    sym (length-take-le c.args.len c.held.result.now (omega (arith, ap length c.held.ensures.bytes)))

pub let_go-requires : goal.let_go-requires
let_go-requires g c = (head_within c.args.ahead.now c.args.len c.requires.head).1

pub returns-in-Ok-clause-first : goal.returns-in-Ok-clause-first
returns-in-Ok-clause-first g c =
    let held = c.args.ahead.now in
    let held' = c.after_body.new.ahead in
    let left = g.S.Source.left c.args.source.now in
    let left' = g.S.Source.left c.after_body.new.source in
    let n = c.args.len in
    let few : n ≤ HEAD_LIMIT = omega (arith, (head_within held n c.requires.head).1, c.requires.room) in
    let said = subst (λ (l : List ℕ). (c.read_head.result ≡ Err OutOfMemory) ⊎ Says (take n l) c.read_head.result) c.held.ensures.bytes c.read_head.ensures.says in
    let says = says_ok (take n held) c.read_head.result c.in-Ok.request c.in-Ok.body said c.in-Ok.is in
    let skips = subst (λ (l : List ℕ). IfOk c.after_body.result (λ next. (next ≡ Request c.in-Ok.request) × Skips c.in-Ok.body l held' left left')) c.let_go.ensures c.after_body.ensures.skips in
    let part = subst (λ (l : List ℕ). OnErr c.after_body.result (SkipsPart c.in-Ok.body l held' left left')) c.let_go.ensures c.after_body.ensures.part in
    answers_body held held' left left' n c.in-Ok.request c.in-Ok.body _ _ c.after_body.result c.requires.head few says skips part c.after_body.ensures.cause

pub returns-in-Ok-clause-none : goal.returns-in-Ok-clause-none
returns-in-Ok-clause-none g c fault =
    let held = c.args.ahead.now in
    let held' = c.after_body.new.ahead in
    let left = g.S.Source.left c.args.source.now in
    let left' = g.S.Source.left c.after_body.new.source in
    let n = c.args.len in
    let few : n ≤ HEAD_LIMIT = omega (arith, (head_within held n c.requires.head).1, c.requires.room) in
    let said = subst (λ (l : List ℕ). (c.read_head.result ≡ Err OutOfMemory) ⊎ Says (take n l) c.read_head.result) c.held.ensures.bytes c.read_head.ensures.says in
    let says = says_ok (take n held) c.read_head.result c.in-Ok.request c.in-Ok.body said c.in-Ok.is in
    let part = subst (λ (l : List ℕ). OnErr c.after_body.result (SkipsPart c.in-Ok.body l held' left left')) c.let_go.ensures c.after_body.ensures.part in
    gave_body held held' left left' n c.in-Ok.request c.in-Ok.body c.after_body.result c.requires.head few says part fault

pub returns-in-Ok-clause-taken : goal.returns-in-Ok-clause-taken
returns-in-Ok-clause-taken g c =
    let held = c.args.ahead.now in
    let held' = c.after_body.new.ahead in
    let left = g.S.Source.left c.args.source.now in
    let left' = g.S.Source.left c.after_body.new.source in
    let n = c.args.len in
    let few : n ≤ HEAD_LIMIT = omega (arith, (head_within held n c.requires.head).1, c.requires.room) in
    let skips = subst (λ (l : List ℕ). IfOk c.after_body.result (λ next. (next ≡ Request c.in-Ok.request) × Skips c.in-Ok.body l held' left left')) c.let_go.ensures c.after_body.ensures.skips in
    let part = subst (λ (l : List ℕ). OnErr c.after_body.result (SkipsPart c.in-Ok.body l held' left left')) c.let_go.ensures c.after_body.ensures.part in
    takes_body held held' left left' n c.in-Ok.request c.in-Ok.body c.after_body.result c.requires.head few c.in-Ok.ensures.few skips part

pub returns-in-Err-clause-first : goal.returns-in-Err-clause-first
returns-in-Err-clause-first g c =
    let held = c.args.ahead.now in
    let n = c.args.len in
    let few : n ≤ HEAD_LIMIT = omega (arith, (head_within held n c.requires.head).1, c.requires.room) in
    let said = subst (λ (l : List ℕ). (c.read_head.result ≡ Err OutOfMemory) ⊎ Says (take n l) c.read_head.result) c.held.ensures.bytes c.read_head.ensures.says in
    answers_refused held (g.S.Source.left c.args.source.now) n c.in-Err.fault c.read_head.result c.requires.head few said c.in-Err.is
