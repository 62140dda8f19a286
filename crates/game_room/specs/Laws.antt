-- Laws of the definitions, for every header and every list of events.
use Rattle.std.specs.Prelude.{Ok, ℕ, ◌≡◌, ◌≤◌, ◌<◌, ◌↔◌, true, false, ◌||◌, List, [], ◌∷◌, ◌++◌, length, None, Some, is_some, Err, IsTrue}
use Rattle.std.specs.List.{All}
use Rattle.board.specs.declared.piece.Colour.{Colour}
use Rattle.board.specs.Piece.{other}
use Rattle.board.specs.Moves.{MoveWord}
use Rattle.draw_rules.specs.Appearance.{occurrences}
use Rattle.game_line.specs.Line.{position_after, IsLegalLine}
use Rattle.game_line.specs.Repetition.{times}
use Rattle.game_line.specs.Quiet.{quiet}
use Rattle.entries.specs.declared.action.Action.{Action}
use Rattle.entries.specs.declared.action.Action.TheVariants as action
use Rattle.game_clock.specs.ClockEvents.{turn_of}
use Rattle.game_clock.specs.Banks.{given, spent}
use Rattle.game_clock.specs.Clocks.{berserk_of}
use Rattle.game_room.specs.declared.header.Header.{Header}
use Rattle.game_room.specs.declared.outcome.Outcome.{Outcome}
use Rattle.game_room.specs.declared.refusal.ActRefusal.{ActRefusal}
use Rattle.game_room.specs.declared.refusal.ActRefusal.TheVariants as refused
use Rattle.game_room.specs.Events.{Event, act_of, tick_at}
use Rattle.game_room.specs.Endings.{due_ending, outcome_at}
use Rattle.game_room.specs.Standing.{has_offered, is_offer_of}
use Rattle.game_room.specs.Games.{game, standing, moves, outcome, due, allowed, game_view}
use Rattle.game_room.specs.Held.{Held, StandsFor}
use Rattle.game_room.specs.Meanings.{IsDone, DoneAt, is_answer, IsUnrefused, ends_by, move_in, OutcomeTells, EndingAt}

-- an ended game stays as it is, whatever events follow
abbrev pub EndedStays : Type 0
EndedStays = (h : Header) (events later : List Event) (o : Outcome) → outcome h events ≡ Some o → game h (events ++ later) ≡ game h events

-- what can be seen of an ended game is what could be seen at its end, whatever events follow and whenever one looks
abbrev pub EndedViewStays : Type 0
EndedViewStays = (h : Header) (events later : List Event) (o : Outcome) (t : ℕ)
    → outcome h events ≡ Some o → game_view h (events ++ later) t ≡ game_view h events o.stamp

-- in an ended game any action is refused
abbrev pub EndedRefuses : Type 0
EndedRefuses = (h : Header) (events : List Event) (side : Colour) (a : Action) (t : ℕ) (o : Outcome)
    → outcome h events ≡ Some o → allowed h events side a t ≡ Err refused.Over

-- a refused action is no event: with it or without it the game is the same, whatever follows
abbrev pub RefusedIsNoEvent : Type 0
RefusedIsNoEvent = (h : Header) (events later : List Event) (side : Colour) (a : Action) (t : ℕ) (r : ActRefusal)
    → allowed h events side a t ≡ Err r
    → game h (events ++ act_of side a t ∷ later) ≡ game h (events ++ later)

-- a look that finds nothing due changes nothing
abbrev pub LookChangesNothing : Type 0
LookChangesNothing = (h : Header) (events later : List Event) (t : ℕ)
    → due h events t ≡ false
    → game h (events ++ tick_at t ∷ later) ≡ game h (events ++ later)

-- the turn began no later than any moment from the start and all events on
abbrev pub TurnBegan : Type 0
TurnBegan = (h : Header) (events : List Event) (t : ℕ)
    → h.start ≤ t → All (λ (e : Event). e.stamp ≤ t) events → (standing h events).clocks.since ≤ t

-- the plies of the clocks are the moves, of which there are no more than events
pub record PliesAreMoves : Type 0 where
  pub counted : (h : Header) (events : List Event) → (standing h events).clocks.moves ≡ length (moves h events)
  pub few : (h : Header) (events : List Event) → length (moves h events) ≤ length events

-- a game has no moves at first, and one event more adds the move of an action that is done and nothing else
pub record MovesAreDone : Type 0 where
  pub none : (h : Header) → moves h [] ≡ []
  pub done : (h : Header) (events : List Event) (side : Colour) (a : Action) (t : ℕ)
      → IsDone h events side a t → moves h (events ++ act_of side a t ∷ []) ≡ moves h events ++ move_in (act_of side a t).deed
  pub in_due : (h : Header) (events : List Event) (e : Event) → due h events e.stamp ≡ true → moves h (events ++ e ∷ []) ≡ moves h events

-- the side to move on the board is the one whose turn the clocks know
abbrev pub OneTurn : Type 0
OneTurn = (h : Header) (events : List Event) → (standing h events).position.turn ≡ turn_of (length (moves h events))

-- neither side has spent more time than it was given, so that a bank is their difference with nothing cut off
abbrev pub BanksAreExact : Type 0
BanksAreExact = (h : Header) (events : List Event) (side : Colour)
    → spent (game h events).clock side ≤ given h.control (game h events).clock side

-- which event ends a game that goes on: any event if it is due, and else, if it is not refused, giving up, accepting an offer,
-- a claim, or a move after which the game ends
abbrev pub WhichEventEnds : Type 0
WhichEventEnds = (h : Header) (events : List Event) (e : Event)
    → outcome h events ≡ None → IsUnrefused h events e
    → is_some (outcome h (events ++ e ∷ [])) ≡ (due h events e.stamp || ends_by (moves h events) e.deed)

-- in a due game any action is allowed, whoever acts, and any event ends it, since the side to move has let its time pass by
pub record DueGamesEnd : Type 0 where
  pub allows : (h : Header) (events : List Event) (side : Colour) (a : Action) (t : ℕ) → due h events t ≡ true → allowed h events side a t ≡ Ok tt
  pub ends : (h : Header) (events : List Event) (e : Event)
      → due h events e.stamp ≡ true
      → let s = standing h events in
      outcome h (events ++ e ∷ []) ≡ Some (outcome_at s.clocks (due_ending s.position s.clocks e.stamp) e.stamp)

-- an outcome is that of one event, which ended the game, and tells a fallen flag or a no-show exactly where the game was due
abbrev pub OneEventEnds : Type 0
OneEventEnds = (h : Header) (events : List Event) (o : Outcome) → outcome h events ≡ Some o → EndingAt h events o

-- an outcome tells the plies and the berserks of the game
abbrev pub OutcomesTell : Type 0
OutcomesTell = (h : Header) (events : List Event) (o : Outcome) → outcome h events ≡ Some o → OutcomeTells h events o

-- a side has berserked exactly where its berserk stands among the events as an action that was done: before the event that
-- ended the game, and not as that event
abbrev pub BerserkMeans : Type 0
BerserkMeans = (h : Header) (events : List Event) (side : Colour)
    → IsTrue (berserk_of (standing h events).clocks side) ↔ DoneAt h events side action.Berserk

-- a side has offered at this ply exactly where it offered when the moves were the same
abbrev pub OfferedMeans : Type 0
OfferedMeans = (h : Header) (events : List Event) (side : Colour)
    → IsTrue (has_offered (standing h events) side)
    ↔ ((x : DoneAt h events side action.Offer) × (moves h x.before ≡ moves h events))

-- an offer of a side stands exactly where the game goes on, the side offered, and the other side has neither declined nor moved
-- since
abbrev pub OfferMeans : Type 0
OfferMeans = (h : Header) (events : List Event) (side : Colour)
    → IsTrue (is_offer_of side (standing h events).offer)
    ↔ ((outcome h events ≡ None) × (x : DoneAt h events side action.Offer)
    × ((a : Action) (y : DoneAt h events (other side) a) → IsTrue (is_answer a) → length y.before < length x.before))

-- a room has the position after the game's moves, which are legal; the positions that it keeps tell how often this position has
-- occurred among all of the game, and its half count tells for how many moves no pawn has moved and nothing was captured
pub record CountsAll (k : Held) (ms : List MoveWord) : Type 0 where
  pub legal : IsLegalLine ms
  pub position : k.position ≡ position_after ms
  pub occurred : occurrences k.past ≡ times ms
  pub half : k.position.half ≡ quiet ms

-- this holds of every room
abbrev pub RoomsCount : Type 0
RoomsCount = (k : Held) (h : Header) (events : List Event) → StandsFor k h events → CountsAll k (moves h events)
