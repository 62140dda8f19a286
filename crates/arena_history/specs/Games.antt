-- The games of a history: which were begun, what happened in each, how it ended, and which run.
use Rattle.std.specs.Prelude.{ℕ, suc, ◌+◌, ◌==◌, ◌||◌, Bool, List, [], ◌∷◌, drop, filter, slice_get, Option, Some, None, is_none, if◌then◌else◌}
use Rattle.std.specs.List.{filter_map, find}
use Rattle.std.specs.Option.{option_map, option_map_or}
use Rattle.board.specs.declared.piece.Colour.{Colour}
use Rattle.board.specs.declared.piece.Colour.TheVariants.{White, Black}
use Rattle.entries.specs.declared.action.Action.{Action}
use Rattle.entries.specs.declared.journal.Entry.{Entry}
use Rattle.entries.specs.declared.journal.Start.{Start}
use Rattle.entries.specs.declared.journal.What.{What}
use Rattle.entries.specs.declared.journal.What.TheVariants.{Enter, Pause, Leave, Act, Tick, Wave}
use Rattle.entries.specs.declared.setup.Setup.{Setup}
use Rattle.game_room.specs.declared.header.Header.{Header}
use Rattle.game_room.specs.declared.outcome.Outcome.{Outcome}
use Rattle.game_room.specs.Events.{Event, act_of, tick_at}
use Rattle.game_room.specs.Games as room
use Rattle.arena_history.specs.History.{History}

-- a game that was begun: the number of the entry that began it, and its header
pub record Begun : Type 0 where
  pub entry : ℕ
  pub header : Header

-- the stamp of entry n, or 0 where there is none
abbrev pub stamp_at : List Entry → ℕ → ℕ
stamp_at es n = option_map_or (λ (e : Entry). e.stamp) (slice_get es n) 0

-- the header of a start: White's first turn begins with the entry that began the game
abbrev pub header_of : Setup → List Entry → ℕ → Start → Header
header_of s es number start = record { id = number; white = start.white; black = start.black; control = s.control; start = stamp_at es start.entry }

-- the game of a start, with its number
abbrev pub game_of : Setup → List Entry → ℕ → Start → Begun
game_of s es number start = record { entry = start.entry; header = header_of s es number start }

-- the games of starts, numbered in their order from a number on
abbrev pub games_from : Setup → List Entry → ℕ → List Start → List Begun
games_from s es number [] = []
games_from s es number (start ∷ rest) = game_of s es number start ∷ games_from s es (suc number) rest

-- the games that were begun: a game's number is how many were begun before it
unfoldable pub begun : Setup → History → List Begun
begun s h = games_from s h.entries 0 h.starts

-- the side of p in a game, if he plays it
abbrev pub side_of : Header → ℕ → Option Colour
side_of g p = if g.white == p then Some White else if g.black == p then Some Black else None

-- the player of a side
abbrev pub player_on : Colour → Header → ℕ
player_on White g = g.white
player_on Black g = g.black

-- p is one of two players
abbrev pub is_either : ℕ → ℕ → ℕ → Bool
is_either p white black = (white == p) || (black == p)

-- p is one of the two players of a game
abbrev pub has_player : ℕ → Begun → Bool
has_player p g = is_either p g.header.white g.header.black

-- an act in game number `number` is an event of that game, if he who acts plays it
abbrev pub act_in : Header → ℕ → ℕ → ℕ → Action → Option Event
act_in g t p number a = if number == g.id then option_map (λ side. act_of side a t) (side_of g p) else None

-- what an entry of this kind is to a game: an act in it, or a look at every game
abbrev pub event_in : Header → ℕ → What → Option Event
event_in g t (Enter p) = None
event_in g t (Pause p) = None
event_in g t (Leave p) = None
event_in g t (Act p number a) = act_in g t p number a
event_in g t Tick = Some (tick_at t)
event_in g t (Wave n) = None

-- what an entry is to a game
abbrev pub event_of : Header → Entry → Option Event
event_of g e = event_in g e.stamp e.what

-- the events of a game: the acts of its players in it and all looks, after the entry that began it
unfoldable pub events : History → Begun → List Event
events h g = filter_map (event_of g.header) (drop (g.entry + 1) h.entries)

-- how a game ended, if it did
unfoldable pub outcome_of : History → Begun → Option Outcome
outcome_of h g = room.outcome g.header (events h g)

-- the game goes on
abbrev pub goes_on : History → Begun → Bool
goes_on h g = is_none (outcome_of h g)

-- the games that run, by number
unfoldable pub running : Setup → History → List Begun
running s h = filter (goes_on h) (begun s h)

-- the number of the running game that p plays, if any
unfoldable pub playing : Setup → History → ℕ → Option ℕ
playing s h p = option_map (λ (g : Begun). g.header.id) (find (has_player p) (running s h))
