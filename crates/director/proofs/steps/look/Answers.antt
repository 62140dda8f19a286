use Rattle.std.proofs.Common.{subst, sym}
use Rattle.director.specs.Steps.{Looks, state_of}
use Rattle.director.proofs.Looking.{by_command}
use Rattle.director.proofs.steps.look.Goals as goal

pub returns-clause-answer : goal.returns-clause-answer
returns-clause-answer g c =
    let s = c.args.lobby.now.fixed in
    let old = c.args.pass.now in
    let m0 = g.C.Clock.moments c.args.clock.now in
    let m1 = g.C.Clock.moments c.now-now.new.self in
    subst (λ answer. Looks s (state_of old m0) (state_of c.command-answer.new.pass m1) answer) (sym c.ended_in.ensures)
    (by_command s old c.command-answer.new.pass m0 m1 c.now-now.result c.now-now.ensures c.looks_end_games.ensures c.command-answer.result c.command-answer.ensures.answer)
