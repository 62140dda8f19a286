-- What stands among the events of a game.
use Rattle.std.specs.Prelude.{ℕ, ◌≡◌, Bool, true, false, List, [], ◌∷◌, ◌++◌, length, None, Some, is_some, Ok}
use Rattle.board.specs.declared.piece.Colour.{Colour}
use Rattle.board.specs.Moves.{MoveWord}
use Rattle.game_line.specs.Line.{position_after}
use Rattle.game_line.specs.Repetition.{times}
use Rattle.game_line.specs.Quiet.{quiet}
use Rattle.entries.specs.declared.action.Action.{Action}
use Rattle.entries.specs.declared.action.Action.TheVariants as action
use Rattle.game_room.specs.declared.header.Header.{Header}
use Rattle.game_room.specs.declared.outcome.Cause.{Cause}
use Rattle.game_room.specs.declared.outcome.Cause.TheVariants as cause
use Rattle.game_room.specs.declared.outcome.Outcome.{Outcome}
use Rattle.game_room.specs.Events.{Event, Deed, Acted, Ticked, act_of}
use Rattle.game_room.specs.Endings.{ending_after_move}
use Rattle.game_room.specs.Games.{standing, moves, outcome, due, allowed}

-- after these events the action is allowed in a game that is not due, so that it does its own
pub record IsDone (h : Header) (before : List Event) (side : Colour) (a : Action) (t : ℕ) : Type 0 where
  pub in_time : due h before t ≡ false
  pub allowed : allowed h before side a t ≡ Ok tt

-- such an action of a side stands among the events
pub record DoneAt (h : Header) (events : List Event) (side : Colour) (a : Action) : Type 0 where
  pub before : List Event
  pub stamp : ℕ
  pub after : List Event
  pub place : events ≡ before ++ act_of side a stamp ∷ after
  pub done : IsDone h before side a stamp

-- declining and moving, with which a side answers an offer of the other
abbrev pub is_answer : Action → Bool
is_answer (action.Move m) = true
is_answer action.Decline = true
is_answer _ = false

-- the event is no action that is refused
abbrev pub IsUnrefused : Header → List Event → Event → Type 0
IsUnrefused h before e = (side : Colour) (a : Action) → e.deed ≡ Acted side a → allowed h before side a e.stamp ≡ Ok tt

-- a deed that ends a game which goes on, if it is not refused: giving up, accepting an offer, a claim, or a move after which
-- the game ends
abbrev pub ends_by : List MoveWord → Deed → Bool
ends_by before (Acted side (action.Move m)) =
    let ms = before ++ m ∷ [] in
    is_some (ending_after_move (position_after ms) (times ms) (quiet ms) side)
ends_by before (Acted side action.Resign) = true
ends_by before (Acted side action.Accept) = true
ends_by before (Acted side action.Claim) = true
ends_by before (Acted side action.Offer) = false
ends_by before (Acted side action.Decline) = false
ends_by before (Acted side action.Berserk) = false
ends_by before Ticked = false

-- the move of a deed, if it is one
abbrev pub move_in : Deed → List MoveWord
move_in (Acted side (action.Move m)) = m ∷ []
move_in _ = []

-- what an outcome says of the moves and of the berserks is so
pub record OutcomeTells (h : Header) (events : List Event) (o : Outcome) : Type 0 where
  pub plies : o.plies ≡ length (moves h events)
  pub white_berserk : o.white_berserk ≡ (standing h events).clocks.white_berserk
  pub black_berserk : o.black_berserk ≡ (standing h events).clocks.black_berserk

-- the causes for which a game ends that is due: a fallen flag, and a first move that did not come
abbrev pub is_by_time : Cause → Bool
is_by_time cause.Flag = true
is_by_time cause.NoShow = true
is_by_time _ = false

-- the event that ended the game, whose stamp the outcome has; its cause is a fallen flag or a no-show exactly where the game was
-- due at that stamp
pub record EndingAt (h : Header) (events : List Event) (o : Outcome) : Type 0 where
  pub before : List Event
  pub event : Event
  pub after : List Event
  pub place : events ≡ before ++ event ∷ after
  pub went_on : outcome h before ≡ None
  pub ended : outcome h (before ++ event ∷ []) ≡ Some o
  pub stamp : o.stamp ≡ event.stamp
  pub by_time : is_by_time o.cause ≡ due h before event.stamp
