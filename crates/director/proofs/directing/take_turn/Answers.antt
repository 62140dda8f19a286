use Rattle.std.proofs.Common.{ap, ◌∙◌, subst, sym}
use Rattle.director.specs.Answers.{turn_of}
use Rattle.director.specs.Steps.{state_of}
use Rattle.director.specs.Turns.{Directs}
use Rattle.director.proofs.Turning.{directs}
use Rattle.director.proofs.directing.take_turn.Goals as goal

pub returns-clause-steps : goal.returns-clause-steps
returns-clause-steps g c =
    let s = c.args.lobby.now.fixed in
    let a = state_of c.args.pass.now (g.C.Clock.moments c.args.clock.now) in
    let b = state_of c.look.new.pass (g.C.Clock.moments c.look.new.clock) in
    let m = state_of c.snap.new.pass (g.C.Clock.moments c.snap.new.clock) in
    let d = state_of c.end_wave-wave.new.pass (g.C.Clock.moments c.end_wave-wave.new.clock) in
    let answer = turn_of s c.in_ok-ended.ended c.in-Ok.snap c.end_wave-wave.result in
    let steps : Directs s a d answer = directs s a b m d c.in_ok-ended.ended c.in-Ok.snap c.in_ok-ended.ensures.answer c.in-Ok.ensures.taken c.end_wave-wave.result c.end_wave-wave.ensures.answer in
    subst (λ x. Directs s a d x) (sym (c.turn_of.ensures ∙ ap (λ t. turn_of t c.in_ok-ended.ended c.in-Ok.snap c.end_wave-wave.result) c.setup.ensures.setup)) steps
