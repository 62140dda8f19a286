-- What is kept of a game, and of which course it tells.
use Rattle.std.specs.Prelude.{ℕ, ◌≡◌, Bool, true, false, None, Some}
use Rattle.game_room.specs.declared.header.Header.{Header}
use Rattle.game_room.specs.declared.outcome.Outcome.{Outcome}
use Rattle.game_room.specs.declared.view.GameView.{GameView}
use Rattle.game_room.specs.Games.{game_view}
use Rattle.game_room.specs.Held as room
use Rattle.game_room.specs.Standing.{is_game_due}
use Rattle.arena_games.specs.declared.ended.EndedGame.{EndedGame}
use Rattle.arena_games.specs.declared.kept.Kept.{Kept}
use Rattle.arena_games.specs.declared.kept.State.{State}
use Rattle.arena_games.specs.declared.kept.State.TheVariants.{Running, Ended}
use Rattle.arena_games.specs.Courses.{Course, outcome_of}

-- what can be seen of an ended game: no offer stands in it, and its outcome tells its plies and its berserks
abbrev pub shown : Header → EndedGame → GameView
shown h e = record {
  id = h.id;
  white = h.white;
  black = h.black;
  position = e.position;
  plies = e.outcome.plies;
  last = e.last;
  offer = None;
  white_ms = e.white_ms;
  black_ms = e.black_ms;
  white_berserk = e.outcome.white_berserk;
  black_berserk = e.outcome.black_berserk;
  outcome = Some e.outcome;
}

-- the record of a game from what can be seen of it at its end
abbrev pub record_of : GameView → Outcome → EndedGame
record_of v o = record { position = v.position; last = v.last; white_ms = v.white_ms; black_ms = v.black_ms; outcome = o }

-- a room of a game that goes on
pub record RunsFor (k : room.Held) (c : Course) : Type 0 where
  pub room : room.StandsFor k c.header c.events
  pub goes_on : outcome_of c ≡ None

-- the record of a game that ended: its outcome, and what could be seen at its end
pub record EndedFor (e : EndedGame) (c : Course) : Type 0 where
  pub outcome : outcome_of c ≡ Some e.outcome
  pub seen : game_view c.header c.events e.outcome.stamp ≡ shown c.header e

-- while a game goes on its room is kept, and then its record
abbrev pub StateFor : State → Course → Type 0
StateFor (Running k) c = RunsFor k c
StateFor (Ended e) c = EndedFor e c

-- what is kept of a game stands for its course
pub record KeptFor (k : Kept) (c : Course) : Type 0 where
  pub header : k.header ≡ c.header
  pub state : StateFor k.state c

-- a room is kept
abbrev pub has_room : State → Bool
has_room (Running k) = true
has_room (Ended e) = false

-- a room is kept of the game
abbrev pub runs : Kept → Bool
runs k = has_room k.state

-- a room is kept and its game is due at t
abbrev pub is_state_due : ℕ → State → Bool
is_state_due t (Running k) = is_game_due (room.standing_in k) t
is_state_due t (Ended e) = false

-- a room is kept of the game, which is due at t
abbrev pub is_kept_due : ℕ → Kept → Bool
is_kept_due t k = is_state_due t k.state
