use Rattle.std.proofs.Common.{◌≡◌, ◌++◌, ◌∷◌, [], sym, ap, subst, ◌∙◌, cond, false, None, Option}
use Rattle.std.specs.Prelude.{IsNone, ◌↔◌}
use Rattle.game_room.specs.declared.outcome.Outcome.{Outcome}
use Rattle.game_room.specs.Events.{tick_at}
use Rattle.game_room.specs.Standing.{is_game_due}
use Rattle.game_room.specs.Games.{due}
use Rattle.game_room.specs.Held.{Held, standing_in, StandsFor}
use Rattle.game_room.proofs.Stands.{tick_stands, room_ticks, room_ticks_none}
use Rattle.game_room.proofs.room.Room.tick.Goals as goal

pub returns-clause-stands : goal.returns-clause-stands
returns-clause-stands c h events room =
    subst (λ (k : Held). StandsFor k h (events ++ tick_at c.args.t ∷ [])) (sym c.look.ensures.is) (tick_stands c.args.self.now h events c.args.t room)

pub returns-clause-answer : goal.returns-clause-answer
returns-clause-answer c h events room =
    c.look.ensures.answer ∙ room_ticks c.args.self.now c.look.new.self h events c.args.t room (returns-clause-stands c h events room)

pub returns-clause-none : goal.returns-clause-none
returns-clause-none c h events room =
    let answer = c.look.ensures.answer ∙ ap (λ (k : Held). cond (is_game_due (standing_in c.args.self.now) c.args.t) k.outcome None) c.look.ensures.is in
    subst (λ (o : Option Outcome). IsNone o ↔ (due h events c.args.t ≡ false)) (sym answer) (room_ticks_none c.args.self.now h events c.args.t room)
