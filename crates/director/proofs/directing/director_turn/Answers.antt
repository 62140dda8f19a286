-- All that a turn leaves follows from its steps.
use Rattle.director.specs.Steps.{state_of}
use Rattle.director.proofs.Left.{Causes, leaves}
use Rattle.director.proofs.directing.director_turn.Goals as goal

pub returns-clause-number : goal.returns-clause-number
returns-clause-number g c =
    let laws : Causes = record { entries = c.beginnings_are_histories.ensures.entries; full_last = c.why_refused.ensures.full_last; full = c.why_refused.ensures.full } in
    (leaves laws c.args.lobby.now.fixed (state_of c.args.pass.now (g.C.Clock.moments c.args.clock.now)) (state_of c.take_turn.new.pass (g.C.Clock.moments c.take_turn.new.clock)) c.take_turn.result c.take_turn.ensures.steps).number

pub returns-clause-turns : goal.returns-clause-turns
returns-clause-turns g c =
    let laws : Causes = record { entries = c.beginnings_are_histories.ensures.entries; full_last = c.why_refused.ensures.full_last; full = c.why_refused.ensures.full } in
    (leaves laws c.args.lobby.now.fixed (state_of c.args.pass.now (g.C.Clock.moments c.args.clock.now)) (state_of c.take_turn.new.pass (g.C.Clock.moments c.take_turn.new.clock)) c.take_turn.result c.take_turn.ensures.steps).turns

pub returns-clause-own : goal.returns-clause-own
returns-clause-own g c =
    let laws : Causes = record { entries = c.beginnings_are_histories.ensures.entries; full_last = c.why_refused.ensures.full_last; full = c.why_refused.ensures.full } in
    (leaves laws c.args.lobby.now.fixed (state_of c.args.pass.now (g.C.Clock.moments c.args.clock.now)) (state_of c.take_turn.new.pass (g.C.Clock.moments c.take_turn.new.clock)) c.take_turn.result c.take_turn.ensures.steps).own

pub returns-clause-seen : goal.returns-clause-seen
returns-clause-seen g c =
    let laws : Causes = record { entries = c.beginnings_are_histories.ensures.entries; full_last = c.why_refused.ensures.full_last; full = c.why_refused.ensures.full } in
    (leaves laws c.args.lobby.now.fixed (state_of c.args.pass.now (g.C.Clock.moments c.args.clock.now)) (state_of c.take_turn.new.pass (g.C.Clock.moments c.take_turn.new.clock)) c.take_turn.result c.take_turn.ensures.steps).seen

pub returns-clause-n : goal.returns-clause-n
returns-clause-n g c =
    let laws : Causes = record { entries = c.beginnings_are_histories.ensures.entries; full_last = c.why_refused.ensures.full_last; full = c.why_refused.ensures.full } in
    (leaves laws c.args.lobby.now.fixed (state_of c.args.pass.now (g.C.Clock.moments c.args.clock.now)) (state_of c.take_turn.new.pass (g.C.Clock.moments c.take_turn.new.clock)) c.take_turn.result c.take_turn.ensures.steps).n

pub returns-clause-shown : goal.returns-clause-shown
returns-clause-shown g c =
    let laws : Causes = record { entries = c.beginnings_are_histories.ensures.entries; full_last = c.why_refused.ensures.full_last; full = c.why_refused.ensures.full } in
    (leaves laws c.args.lobby.now.fixed (state_of c.args.pass.now (g.C.Clock.moments c.args.clock.now)) (state_of c.take_turn.new.pass (g.C.Clock.moments c.take_turn.new.clock)) c.take_turn.result c.take_turn.ensures.steps).shown

pub returns-clause-full : goal.returns-clause-full
returns-clause-full g c =
    let laws : Causes = record { entries = c.beginnings_are_histories.ensures.entries; full_last = c.why_refused.ensures.full_last; full = c.why_refused.ensures.full } in
    (leaves laws c.args.lobby.now.fixed (state_of c.args.pass.now (g.C.Clock.moments c.args.clock.now)) (state_of c.take_turn.new.pass (g.C.Clock.moments c.take_turn.new.clock)) c.take_turn.result c.take_turn.ensures.steps).full
