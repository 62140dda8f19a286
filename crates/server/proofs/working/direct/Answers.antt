use Rattle.std.proofs.Common.{sym, subst}
use Rattle.director.specs.Steps.{state_of}
use Rattle.server.specs.Works.{Works}
use Rattle.server.proofs.Reasons.{works_by_turn}
use Rattle.server.proofs.working.direct.Goals as goal

pub returns-clause-works : goal.returns-clause-works
returns-clause-works g c =
    let s = c.args.lobby.now.fixed in
    let a = state_of c.args.pass.now (g.C.Clock.moments c.args.clock.now) in
    let d = state_of c.director_turn-turn.new.pass (g.C.Clock.moments c.director_turn-turn.new.clock) in
    let turned = c.director_turn-turn.ensures in
    subst (λ end. Works s a d end) (sym c.end_by.ensures)
    (works_by_turn s a d c.director_turn-turn.result turned.number turned.turns turned.seen turned.shown turned.full)
