use Rattle.std.proofs.Common.{◌≡◌, ℕ, ◌+◌, ◌*◌, ◌<◌, ◌≤◌, List, [], sym, ap, subst, arith, length}
use Rattle.http_lines.specs.declared.request.TheConstants.{HEAD_LIMIT, BODY_LIMIT}
use Rattle.host.specs.Steps.{SoFar}
use Rattle.host.specs.Talk.{around}
use Rattle.host.proofs.Reading.{took_at_most, took_more}
use Rattle.host.proofs.Talking.{ends_at_limit, nothing_answered}
use Rattle.host.proofs.serving.serve_requests.Goals as goal

pub loop-before-init : goal.loop-before-init
loop-before-init g c =
    let s = c.args.desk.now.lobby.now.fixed in
    let keys = c.args.desk.now.keys.now in
    let start = around c.args.pass.now (g.C.Clock.moments c.args.clock.now) (g.S.Source.left c.args.source.now) (g.S.Source.faults c.args.source.now) (g.K.Sink.held c.args.sink.now) (g.K.Sink.faults c.args.sink.now) in
    record {
      ready = c.requires.ready;
      so = subst (λ (ahead : List ℕ). SoFar s keys start start ahead 0) (sym c.requires.none) (nothing_answered s keys start);
      few = omega (arith, ap length c.requires.none);
    }

pub returns-in-Some-clause-taken : goal.returns-in-Some-clause-taken
returns-in-Some-clause-taken g c =
    let so = c.loop-before.invariant.so in
    let took = c.serve_next.ensures.taken in
    let before = c.loop-before.before in
    let few : length c.serve_next.new.requests ≤ 8192 = c.serve_next.ensures.held in
    let below : before < 100 = c.loop-before-test.true in
    took_at_most _ _ (length c.serve_next.new.requests + (before + 1) * (HEAD_LIMIT + BODY_LIMIT)) 1236992 (omega arith)
    (took_more _ _ _ (length c.loop-before.requests) (length c.serve_next.new.requests) before (HEAD_LIMIT + BODY_LIMIT) took.0 so.took took.1 took.2)

pub returns-clause-talk : goal.returns-clause-talk
returns-clause-talk g c =
    let s = c.args.desk.now.lobby.now.fixed in
    let keys = c.args.desk.now.keys.now in
    let l = c.loop-before in
    let start = around c.args.pass.now (g.C.Clock.moments c.args.clock.now) (g.S.Source.left c.args.source.now) (g.S.Source.faults c.args.source.now) (g.K.Sink.held c.args.sink.now) (g.K.Sink.faults c.args.sink.now) in
    let now = around l.pass (g.C.Clock.moments l.clock) (g.S.Source.left l.source) (g.S.Source.faults l.source) (g.K.Sink.held l.sink) (g.K.Sink.faults l.sink) in
    let all : l.before ≡ 100 = omega (arith, c.loop-before-test.false, c.loop-before.auto.before-end) in
    ends_at_limit c.laws_of_requests.ensures s keys start now l.requests (subst (SoFar s keys start now l.requests) all l.invariant.so)

pub returns-clause-taken : goal.returns-clause-taken
returns-clause-taken g c =
    let l = c.loop-before in
    let so = l.invariant.so in
    let few : length l.requests ≤ 8192 = l.invariant.few in
    let all : l.before ≤ 100 = c.loop-before.auto.before-end in
    took_at_most _ _ (length l.requests + l.before * (HEAD_LIMIT + BODY_LIMIT)) 1236992 (omega arith) so.took
