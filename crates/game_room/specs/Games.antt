-- What the events of a game make of it: every answer is a function of the header and the list of events.
use Rattle.std.specs.Prelude.{ℕ, Bool, false, true, if◌then◌else◌, List, [], ◌∷◌, ◌++◌, fold, Option, None, Some, is_none, is_some, Result, Ok, Err}
use Rattle.std.specs.List.{last_or}
use Rattle.board.specs.declared.piece.Colour.{Colour}
use Rattle.board.specs.declared.piece.Colour.TheVariants.{White, Black}
use Rattle.board.specs.Piece.{other}
use Rattle.board.specs.Moves.{MoveWord}
use Rattle.game_line.specs.Line.{position_after}
use Rattle.game_line.specs.Repetition.{times}
use Rattle.game_line.specs.Quiet.{quiet}
use Rattle.entries.specs.declared.action.Action.{Action}
use Rattle.entries.specs.declared.action.Action.TheVariants as action
use Rattle.game_clock.specs.ClockEvents.{ClockEvent, BerserkedBy, MovedAt}
use Rattle.game_clock.specs.Clocks.{clocks, is_due, left}
use Rattle.game_room.specs.declared.header.Header.{Header}
use Rattle.game_room.specs.declared.outcome.Cause.TheVariants as cause
use Rattle.game_room.specs.declared.outcome.Outcome.{Outcome}
use Rattle.game_room.specs.declared.outcome.Done.{Done}
use Rattle.game_room.specs.declared.outcome.Done.TheVariants as done
use Rattle.game_room.specs.declared.refusal.ActRefusal.{ActRefusal}
use Rattle.game_room.specs.declared.view.GameView.{GameView}
use Rattle.game_room.specs.Events.{Event, Deed, Acted, Ticked, act_of, tick_at}
use Rattle.game_room.specs.Standing.{Standing, is_game_due, is_offer_of}
use Rattle.game_room.specs.Endings.{won, drawn, claim_cause, claim_ending, ending_after_move, due_ending, outcome_if_ended, offer_unless_ended}
use Rattle.game_room.specs.declared.ending.Ending.{Ending}
use Rattle.game_room.specs.Refusals.{own_refusal, refusal}

-- the moves that were made, the berserks and moves as the clocks are told of them, whose offer stands, which sides have
-- offered since the last move, and how the game ended
pub record Game : Type 0 where
  pub moves : List MoveWord
  pub clock : List ClockEvent
  pub offer : Option Colour
  pub white_offered : Bool
  pub black_offered : Bool
  pub outcome : Option Outcome

-- a game of which nothing has happened
abbrev pub new_game : Game
new_game = record { moves = []; clock = []; offer = None; white_offered = false; black_offered = false; outcome = None }

-- how it stands
unfoldable pub standing_of : Header → Game → Standing
standing_of h g = record {
  position = position_after g.moves;
  times = times g.moves;
  quiet = quiet g.moves;
  last = last_or None g.moves;
  clocks = clocks h.control h.start g.clock;
  offer = g.offer;
  white_offered = g.white_offered;
  black_offered = g.black_offered;
  outcome = g.outcome;
}

-- an ending of a game that goes on is settled: with one the game is over and no offer stands, and without one all stays
unfoldable pub settled : Header → Game → Option Ending → ℕ → Game
settled h g ending t = record g {
  offer = offer_unless_ended ending g.offer;
  outcome = outcome_if_ended (clocks h.control h.start g.clock) ending t;
}

-- an offer once a side has moved: the other side's lapses, and its own stays
abbrev pub offer_after_move : Colour → Option Colour → Option Colour
offer_after_move side offer = if is_offer_of (other side) offer then None else offer

-- a side has made a move, before it is looked whether this ends the game
unfoldable pub moved : Game → Colour → MoveWord → ℕ → Game
moved g side m t = record g {
  moves = g.moves ++ m ∷ [];
  clock = g.clock ++ MovedAt t ∷ [];
  offer = offer_after_move side g.offer;
  white_offered = false;
  black_offered = false;
}

-- a side has offered a draw
abbrev pub offered : Game → Colour → Game
offered g White = record g { offer = Some White; white_offered = true }
offered g Black = record g { offer = Some Black; black_offered = true }

-- how the game ends by the side's last move, if it does
abbrev pub ending_of : Game → Colour → Option Ending
ending_of g side = ending_after_move (position_after g.moves) (times g.moves) (quiet g.moves) side

-- a side has done what it may do
abbrev pub after_action : Header → Game → Colour → Action → ℕ → Game
after_action h g side (action.Move m) t = settled h (moved g side m t) (ending_of (moved g side m t) side) t
after_action h g side action.Resign t = settled h g (Some (won (other side) cause.Resign)) t
after_action h g side action.Offer t = offered g side
after_action h g side action.Accept t = settled h g (Some (drawn cause.Agreed)) t
after_action h g side action.Decline t = record g { offer = None }
after_action h g side action.Claim t = settled h g (claim_ending (claim_cause (times g.moves) (quiet g.moves))) t
after_action h g side action.Berserk t = record g { clock = g.clock ++ BerserkedBy side ∷ [] }

-- the side to move has let its time pass by
abbrev pub after_due : Header → Game → ℕ → Game
after_due h g t = settled h g (Some (due_ending (position_after g.moves) (clocks h.control h.start g.clock) t)) t

-- what a deed makes of a game that goes on and is not due: a refused action and a look change nothing
abbrev pub after_deed : Header → Game → Deed → ℕ → Game
after_deed h g (Acted side a) t = if is_none (own_refusal (standing_of h g) side a) then after_action h g side a t else g
after_deed h g Ticked t = g

-- one event more: an ended game stays as it is, and in a due game any event ends it
unfoldable pub after_event : Header → Game → Event → Game
after_event h g e =
    if is_some g.outcome then g
    else if is_due (clocks h.control h.start g.clock) e.stamp then after_due h g e.stamp
    else after_deed h g e.deed e.stamp

-- the game after its events
unfoldable pub game : Header → List Event → Game
game h events = fold (after_event h) new_game events

-- how it stands after its events
unfoldable pub standing : Header → List Event → Standing
standing h events = standing_of h (game h events)

-- the moves of the events: the accepted ones up to the end of the game
unfoldable pub moves : Header → List Event → List MoveWord
moves h events = (game h events).moves

-- how the game ended, or none while it goes on
unfoldable pub outcome : Header → List Event → Option Outcome
outcome h events = (game h events).outcome

-- the game goes on and is due at t
unfoldable pub due : Header → List Event → ℕ → Bool
due h events t = is_game_due (standing h events) t

-- no refusal, or this one
abbrev pub allowed_unless : Option ActRefusal → Result (Unit {0}) ActRefusal
allowed_unless None = Ok tt
allowed_unless (Some r) = Err r

-- whether an action is allowed at t after these events, or its first refusal
unfoldable pub allowed : Header → List Event → Colour → Action → ℕ → Result (Unit {0}) ActRefusal
allowed h events side a t = allowed_unless (refusal (standing h events) side a t)

-- what an accepted action did, if the game goes on
abbrev pub done_by : Action → Done
done_by (action.Move m) = done.Moved
done_by _ = done.Noted

-- what an accepted action did: it ended the game, or it is a move, or it is noted
abbrev pub done_with : Option Outcome → Action → Done
done_with (Some o) a = done.Ended o
done_with None a = done_by a

-- the answer to an action: its refusal, or what it did
abbrev pub answer_with : Option ActRefusal → Done → Result Done ActRefusal
answer_with None d = Ok d
answer_with (Some r) d = Err r

-- the answer to an action at t after these events
unfoldable pub answer : Header → List Event → Colour → Action → ℕ → Result Done ActRefusal
answer h events side a t =
    answer_with (refusal (standing h events) side a t) (done_with (outcome h (events ++ act_of side a t ∷ [])) a)

-- the answer to a look at t after these events: how the game ended, if it was due
unfoldable pub ticked : Header → List Event → ℕ → Option Outcome
ticked h events t = if due h events t then outcome h (events ++ tick_at t ∷ []) else None

-- when the clocks are read: at t, or in an ended game at its end
abbrev pub reading_stamp : Option Outcome → ℕ → ℕ
reading_stamp None t = t
reading_stamp (Some o) t = o.stamp

-- what can be seen at t of a game with this header that stands so
unfoldable pub view_of : Header → Standing → ℕ → GameView
view_of h s t = record {
  id = h.id;
  white = h.white;
  black = h.black;
  position = s.position;
  plies = s.clocks.moves;
  last = s.last;
  offer = s.offer;
  white_ms = left s.clocks White (reading_stamp s.outcome t);
  black_ms = left s.clocks Black (reading_stamp s.outcome t);
  white_berserk = s.clocks.white_berserk;
  black_berserk = s.clocks.black_berserk;
  outcome = s.outcome;
}

-- what can be seen at t after these events
unfoldable pub game_view : Header → List Event → ℕ → GameView
game_view h events t = view_of h (standing h events) t
