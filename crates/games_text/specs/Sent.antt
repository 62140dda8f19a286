-- The moves that players send to their games, and which of them are made.
use Rattle.std.specs.Prelude.{◌≡◌, ℕ, ◌<◌, ◌==◌, get_or, if◌then◌else◌, List, [], ◌∷◌, ◌++◌, take, length, Some, IsTrue}
use Rattle.std.specs.List.{flat_map}
use Rattle.board.specs.Moves.{MoveWord}
use Rattle.board.specs.Start.{start_parts}
use Rattle.entries.specs.declared.action.Action.{Action}
use Rattle.entries.specs.declared.action.Action.TheVariants as action
use Rattle.entries.specs.declared.journal.Entry.{Entry}
use Rattle.entries.specs.declared.journal.What.{What}
use Rattle.entries.specs.declared.journal.What.TheVariants as what
use Rattle.entries.specs.declared.setup.Setup.{Setup}
use Rattle.game_room.specs.declared.header.Header.{Header}
use Rattle.game_room.specs.declared.outcome.Outcome.{Outcome}
use Rattle.game_room.specs.Events.{Event}
use Rattle.game_room.specs.Games.{moves}
use Rattle.arena_history.specs.GameLaws.{IsGameOf}
use Rattle.arena_history.specs.Games.{Begun, events, outcome_of}
use Rattle.arena_history.specs.Waves.{history}
use Rattle.arena_rules.specs.Legal.{IsLegal}
use Rattle.pgn_text.specs.Games.{is_line}

-- the move of an action, if it is one
abbrev pub move_of : Action → List MoveWord
move_of (action.Move m) = m ∷ []
move_of _ = []

-- the move that an action in game number `number` sends to game number n, if it does
abbrev pub sent_by : ℕ → ℕ → Action → List MoveWord
sent_by n number a = if number == n then move_of a else []

-- the same of an entry of this kind
abbrev pub sent_in : ℕ → What → List MoveWord
sent_in n (what.Act p number a) = sent_by n number a
sent_in n _ = []

-- the moves that entries send to game number n, in order
unfoldable pub sent : ℕ → List Entry → List MoveWord
sent n es = flat_map (λ (e : Entry). sent_in n e.what) es

-- the moves of an ended game of a legal list are the first ones that were sent to it, as many as its outcome tells: what was sent
-- last may have come too late
abbrev pub MovesWereSent : Type 0
MovesWereSent = (s : Setup) (es : List Entry) (g : Begun) (o : Outcome)
    → IsLegal s es
    → IsGameOf s es g
    → outcome_of (history s es) g ≡ Some o
    → moves g.header (events (history s es) g) ≡ take o.plies (sent g.header.id es)

-- the moves of a game are a legal line from the start, whatever happened in it
abbrev pub MovesAreALine : Type 0
MovesAreALine = (h : Header) (xs : List Event) → IsTrue (is_line start_parts (moves h xs))

-- there are so many lines, one for each game by number, and each has the moves that these entries sent to its game
pub record AreSent (count : ℕ) (es : List Entry) (lines : List (List MoveWord)) : Type 0 where
  pub counted : length lines ≡ count
  pub each : (n : ℕ) → n < count → get_or lines n [] ≡ sent n es

-- each line goes on with more, by its number
pub record GoOn (more : ℕ → List MoveWord) (old new : List (List MoveWord)) : Type 0 where
  pub counted : length new ≡ length old
  pub each : (n : ℕ) → n < length old → get_or new n [] ≡ get_or old n [] ++ more n
