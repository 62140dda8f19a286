-- The courses of games: what was settled at the beginning and what happened since.
use Rattle.std.specs.Prelude.{ℕ, suc, ◌≤◌, ◌<◌, Bool, List, [], ◌∷◌, ◌++◌, length, map, take, drop, Option, is_none, if◌then◌else◌}
use Rattle.std.specs.List.{All}
use Rattle.game_room.specs.declared.header.Header.{Header}
use Rattle.game_room.specs.declared.outcome.Outcome.{Outcome}
use Rattle.game_room.specs.Events.{Event, tick_at}
use Rattle.game_room.specs.Games.{outcome, due}
use Rattle.entries.specs.Limits.{max_entries}

-- the course of a game: its header and its events
pub record Course : Type 0 where
  pub header : Header
  pub events : List Event

-- a game that is just begun
abbrev pub begun : Header → Course
begun h = record { header = h; events = [] }

-- a game with one event more
abbrev pub with_event : Event → Course → Course
with_event e c = record { header = c.header; events = c.events ++ e ∷ [] }

-- a game with a look at t behind its events
abbrev pub looked : ℕ → Course → Course
looked t c = with_event (tick_at t) c

-- how a game ended, or none while it goes on
abbrev pub outcome_of : Course → Option Outcome
outcome_of c = outcome c.header c.events

-- the game goes on
abbrev pub goes_on : Course → Bool
goes_on c = is_none (outcome_of c)

-- the game goes on and is due at t
abbrev pub is_due : ℕ → Course → Bool
is_due t c = due c.header c.events t

-- the games of which those with numbers below n have a look at t behind their events
abbrev pub looked_below : ℕ → ℕ → List Course → List Course
looked_below n t games = map (looked t) (take n games) ++ drop n games

-- the numbers of those items that pass, where the first item has number n
abbrev pub numbers_where : {X : Type 0} → (X → Bool) → ℕ → List X → List ℕ
numbers_where p n [] = []
numbers_where p n (x ∷ xs) = if p x then n ∷ numbers_where p (suc n) xs else numbers_where p (suc n) xs

-- nothing in the game is later than t: neither its beginning nor an event
pub record IsPast (t : ℕ) (c : Course) : Type 0 where
  pub begun : c.header.start ≤ t
  pub events : All (λ (e : Event). e.stamp ≤ t) c.events

-- the game has fewer events than a room takes moves
abbrev pub IsShort : Course → Type 0
IsShort c = length c.events < max_entries
