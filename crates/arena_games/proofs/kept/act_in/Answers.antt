use Rattle.std.proofs.Common.{◌≡◌, ℕ, ◌≤◌, ◌++◌, ◌∷◌, [], List, Some, None, Ok, Err, sym, subst, arith}
use Rattle.board.specs.declared.piece.Colour.{Colour}
use Rattle.entries.specs.declared.action.Action.{Action}
use Rattle.game_room.specs.Events.{Event, act_of}
use Rattle.game_room.specs.Held as room
use Rattle.game_room.specs.declared.header.Header.{Header}
use Rattle.arena_games.specs.declared.kept.Kept.{Kept}
use Rattle.arena_games.specs.declared.kept.State.TheVariants.{Running}
use Rattle.arena_games.specs.Answers.{act_answer}
use Rattle.arena_games.specs.Courses.{Course, with_event}
use Rattle.arena_games.specs.Keeps.{KeptFor}
use Rattle.arena_games.proofs.Answered.{in_turn, has_moves_left, running, refuses_act, answers_so, outcome_told, record_made, past_with}
use Rattle.arena_games.proofs.kept.act_in.Goals as goal

pub returns-in_default-clause-answer : goal.returns-in_default-clause-answer
returns-in_default-clause-answer c k kept =
    refuses_act c.kept_games_stay.ensures.refuse c.args.game.now c.in_default.field-0 k c.args.side c.args.action c.args.t c.in_default.is kept

pub act-requires-clause-in_turn : goal.act-requires-clause-in_turn
act-requires-clause-in_turn c =
    let r = c.requires.in_time in
    in_turn c.kept_games_stay.ensures.rooms c.args.game.now c.in-Running.live r.course c.args.t c.in-Running.is r.stands r.past

pub act-requires-clause-room : goal.act-requires-clause-room
act-requires-clause-room c =
    let r = c.requires.in_time in
    has_moves_left c.kept_games_stay.ensures.rooms c.args.game.now c.in-Running.live r.course c.in-Running.is r.stands r.short

pub view-requires : goal.view-requires
view-requires c =
    let r = c.requires.in_time in
    let e = act_of c.args.side c.args.action c.args.t in
    let stands = c.in-Ok-Ended.ensures.accepted r.course.header r.course.events (running c.args.game.now c.in-Running.live r.course c.in-Running.is r.stands).room in
    let turn : c.act.new.self.clocks.since ≤ c.args.t =
    c.kept_games_stay.ensures.rooms.in_turn c.act.new.self (with_event e r.course) c.args.t stands (past_with c.args.t e r.course (omega arith) r.past) in
    subst (λ (k : room.Held). k.clocks.since ≤ c.args.t) (sym c.room.ensures) turn

pub returns-in-Err-clause-answer : goal.returns-in-Err-clause-answer
returns-in-Err-clause-answer c k kept =
    answers_so c.args.game.now c.in-Running.live k c.args.side c.args.action c.args.t (Err c.in-Err.refusal) c.in-Running.is kept c.in-Err.ensures.answer

pub returns-in-Ok-Ended-clause-answer : goal.returns-in-Ok-Ended-clause-answer
returns-in-Ok-Ended-clause-answer c k kept =
    answers_so c.args.game.now c.in-Running.live k c.args.side c.args.action c.args.t _ c.in-Running.is kept (rw c.in-Ok-Ended.field-0-is at c.in-Ok-Ended.ensures.answer)

pub returns-in-Ok-Ended-clause-stands : goal.returns-in-Ok-Ended-clause-stands
returns-in-Ok-Ended-clause-stands c k kept =
    let e = act_of c.args.side c.args.action c.args.t in
    let stands = c.in-Ok-Ended.ensures.accepted k.header k.events (running c.args.game.now c.in-Running.live k c.in-Running.is kept).room in
    let over = outcome_told k c.args.side c.args.action c.args.t (Some c.in-Ok-Ended.outcome) (returns-in-Ok-Ended-clause-answer c k kept) in
    record {
      header = kept.header;
      state = record_made c.kept_games_stay.ensures.made c.room.result.now (with_event e k) c.args.t c.in-Ok-Ended.outcome c.view.result c.record_of-record.result
          (subst (λ (r : room.Held). room.StandsFor r k.header (k.events ++ e ∷ [])) (sym c.room.ensures) stands) over c.view.ensures c.record_of-record.ensures;
    }

-- a game that the action does not end goes on in its room
goes_on : (k : Kept) (r s : room.Held) (m : Course) (side : Colour) (a : Action) (t : ℕ) → k.state ≡ Running r → KeptFor k m
    → ((h : Header) (events : List Event) → room.StandsFor r h events → room.StandsFor s h (events ++ act_of side a t ∷ []))
    → Ok None ≡ act_answer m side a t → KeptFor (record { header = k.header; state = Running s }) (with_event (act_of side a t) m)
goes_on k r s m side a t is kept later told = record {
  header = kept.header;
  state = record { room = later m.header m.events (running k r m is kept).room; goes_on = outcome_told m side a t None told };
}

pub returns-in-Ok-Moved-clause-answer : goal.returns-in-Ok-Moved-clause-answer
returns-in-Ok-Moved-clause-answer c k kept =
    answers_so c.args.game.now c.in-Running.live k c.args.side c.args.action c.args.t _ c.in-Running.is kept (rw c.in-Ok-Moved.field-0-is at c.in-Ok-Moved.ensures.answer)

pub returns-in-Ok-Moved-clause-stands : goal.returns-in-Ok-Moved-clause-stands
returns-in-Ok-Moved-clause-stands c k kept =
    goes_on c.args.game.now c.in-Running.live c.act.new.self k c.args.side c.args.action c.args.t c.in-Running.is kept c.in-Ok-Moved.ensures.accepted (returns-in-Ok-Moved-clause-answer c k kept)

pub returns-in-Ok-Noted-clause-answer : goal.returns-in-Ok-Noted-clause-answer
returns-in-Ok-Noted-clause-answer c k kept =
    answers_so c.args.game.now c.in-Running.live k c.args.side c.args.action c.args.t _ c.in-Running.is kept (rw c.in-Ok-Noted.field-0-is at c.in-Ok-Noted.ensures.answer)

pub returns-in-Ok-Noted-clause-stands : goal.returns-in-Ok-Noted-clause-stands
returns-in-Ok-Noted-clause-stands c k kept =
    goes_on c.args.game.now c.in-Running.live c.act.new.self k c.args.side c.args.action c.args.t c.in-Running.is kept c.in-Ok-Noted.ensures.accepted (returns-in-Ok-Noted-clause-answer c k kept)
