use Rattle.std.proofs.Common.{◌≡◌, ◌≤◌, ◌++◌, ◌∷◌, [], Option, false, arith, refl, sym, subst}
use Rattle.std.specs.Prelude.{IfNone}
use Rattle.game_room.specs.declared.outcome.Outcome.{Outcome}
use Rattle.game_room.specs.Events.{tick_at}
use Rattle.game_room.specs.Held as room
use Rattle.arena_games.specs.Courses.{Course, is_due, looked}
use Rattle.arena_games.specs.Keeps.{KeptFor}
use Rattle.arena_games.proofs.Answered.{ended, in_turn, running, past_with, record_not_ticked, record_looked, record_made, none_ticked, outcome_ticked}
use Rattle.arena_games.proofs.Rooms.{ended_not_due}
use Rattle.arena_games.proofs.kept.look_in.Goals as goal

pub returns-in_default-clause-answer : goal.returns-in_default-clause-answer
returns-in_default-clause-answer c k kept = record_not_ticked c.args.game.now c.in_default.field-0 k c.args.t c.in_default.is kept

pub returns-in_default-clause-stands : goal.returns-in_default-clause-stands
returns-in_default-clause-stands c k kept = record_looked c.kept_games_stay.ensures.idle c.args.game.now c.in_default.field-0 k c.args.t c.in_default.is kept

pub tick-requires : goal.tick-requires
tick-requires c =
    let r = c.requires in
    record { in_turn = in_turn c.kept_games_stay.ensures.rooms c.args.game.now c.in-Running.live r.course c.args.t c.in-Running.is r.stands r.past }

pub returns-in_err-outcome-clause-stands : goal.returns-in_err-outcome-clause-stands
returns-in_err-outcome-clause-stands c k kept =
    let r = running c.args.game.now c.in-Running.live k c.in-Running.is kept in
    record {
      header = kept.header;
      state = record {
        room = c.in_err-outcome.ensures.stands k.header k.events r.room;
        goes_on = none_ticked c.kept_games_stay.ensures.idle c.args.game.now c.in-Running.live k c.args.t c.in-Running.is kept (c.in_err-outcome.ensures.answer k.header k.events r.room);
      };
    }

pub view-requires : goal.view-requires
view-requires c =
    let r = c.requires in
    let stands = c.in_ok-outcome.ensures.stands r.course.header r.course.events (running c.args.game.now c.in-Running.live r.course c.in-Running.is r.stands).room in
    let turn : c.tick.new.self.clocks.since ≤ c.args.t =
    c.kept_games_stay.ensures.rooms.in_turn c.tick.new.self (looked c.args.t r.course) c.args.t stands (past_with c.args.t (tick_at c.args.t) r.course (omega arith) r.past) in
    subst (λ (k : room.Held). k.clocks.since ≤ c.args.t) (sym c.room.ensures) turn

pub returns-clause-stands : goal.returns-clause-stands
returns-clause-stands c k kept =
    let r = running c.args.game.now c.in-Running.live k c.in-Running.is kept in
    let stands = c.in_ok-outcome.ensures.stands k.header k.events r.room in
    record {
      header = kept.header;
      state = record_made c.kept_games_stay.ensures.made c.room.result.now (looked c.args.t k) c.args.t c.in_ok-outcome.outcome c.view.result c.record_of-record.result
          (subst (λ (x : room.Held). room.StandsFor x k.header (k.events ++ tick_at c.args.t ∷ [])) (sym c.room.ensures) stands)
          (outcome_ticked k c.args.t c.in_ok-outcome.outcome (c.in_ok-outcome.ensures.answer k.header k.events r.room)) c.view.ensures c.record_of-record.ensures;
    }

pub returns-in_default-clause-idle : goal.returns-in_default-clause-idle
returns-in_default-clause-idle c k kept = ended_not_due k c.in_default.field-0.outcome c.args.t (ended c.args.game.now c.in_default.field-0 k c.in_default.is kept).outcome

pub returns-in_err-outcome-clause-idle : goal.returns-in_err-outcome-clause-idle
returns-in_err-outcome-clause-idle c =
    subst (λ (o : Option Outcome). IfNone o ((k : Course) → KeptFor c.args.game.now k → is_due c.args.t k ≡ false)) (sym c.from_residual.ensures)
    (λ k kept. (c.in_err-outcome.ensures.none k.header k.events (running c.args.game.now c.in-Running.live k c.in-Running.is kept).room).0 refl)
