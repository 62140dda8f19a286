use Rattle.std.proofs.Common.{◌++◌, ◌∷◌, [], List, Ok, ap, subst, sym, ◌∙◌}
use Rattle.game_room.specs.declared.header.Header.{Header}
use Rattle.game_room.specs.Events.{Event, act_of}
use Rattle.game_room.specs.Held.{Held, StandsFor}
use Rattle.game_room.proofs.Stands.{act_stands, room_refuses, room_accepts}
use Rattle.game_room.proofs.room.Room.act.Goals as goal

pub returns-in-Some-clause-answer : goal.returns-in-Some-clause-answer
returns-in-Some-clause-answer c h events room =
    room_refuses c.args.self.now h events c.args.who c.args.a c.args.t c.in-Some.refusal room (sym c.in-Some.ensures)

-- the room stands for the events with the action
later : (c : goal.After-accept) (h : Header) (events : List Event) → StandsFor c.args.self.now h events
    → StandsFor c.accept.new.self h (events ++ act_of c.args.who c.args.a c.args.t ∷ [])
later c h events room =
    subst (λ (k : Held). StandsFor k h (events ++ act_of c.args.who c.args.a c.args.t ∷ []))
    (sym c.accept.ensures.is)
    (act_stands c.repetitions_are_kept.ensures c.args.self.now h events c.args.who c.args.a c.args.t room (sym c.in-None.ensures) c.keeps.ensures c.has_room.ensures)

pub returns-in-None-clause-answer : goal.returns-in-None-clause-answer
returns-in-None-clause-answer c h events room =
    ap Ok c.accept.ensures.done
    ∙ room_accepts c.args.self.now c.accept.new.self h events c.args.who c.args.a c.args.t room (sym c.in-None.ensures) (later c h events room)

pub returns-in-None-clause-accepted : goal.returns-in-None-clause-accepted
returns-in-None-clause-accepted c h events room = later c h events room
