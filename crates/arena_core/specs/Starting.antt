-- Which pairs of a plan a wave starts, from what is kept of the players, and the games that it begins, by their headers.
use Rattle.std.specs.Prelude.{◌≢◌, ◌<◌, IsTrue, ℕ, suc, nat_le, ◌&&◌, Bool, false, List, [], ◌∷◌, length, map, ◌≡◌, ◌+◌, ◌≤◌, filter, Option, Some, None}
use Rattle.entries.specs.Limits.{max_games}
use Rattle.entries.specs.declared.journal.Start.{Start}
use Rattle.entries.specs.declared.setup.Control.{Control}
use Rattle.game_room.specs.declared.header.Header.{Header}
use Rattle.pair_cost.specs.declared.candidate.Pair.{Pair}
use Rattle.seats.specs.Places.{Place, place_at, seat_at, idle_since, is_waiting}
use Rattle.entries.specs.declared.journal.Entry.{Entry}
use Rattle.entries.specs.declared.setup.Setup.{Setup}
use Rattle.arena_games.specs.declared.kept.Kept.{Kept}
use Rattle.arena_games.specs.Beginnings.{ArePrepared}
use Rattle.arena_games.specs.Courses as course
use Rattle.arena_games.specs.KeptGames as games
use Rattle.arena_history.specs.Waves.{started, history}
use Rattle.arena_core.specs.People.{KeptPeople}

-- idle since so many entries, which are n or fewer
abbrev pub is_since : ℕ → Option ℕ → Bool
is_since n None = false
is_since n (Some m) = nat_le m n

-- p waits for a game, and has since n entries or fewer
abbrev pub waits_at : List Place → ℕ → ℕ → Bool
waits_at places n p = is_since n (idle_since (place_at places p))

-- so do both players of a pair
abbrev pub both_wait : List Place → ℕ → Pair → Bool
both_wait places n pair = waits_at places n pair.white && waits_at places n pair.black

-- the pairs of which both players do
abbrev pub waiting : List Place → ℕ → List Pair → List Pair
waiting places n pairs = filter (both_wait places n) pairs

-- the game of a header, begun by this entry
abbrev pub start_at : ℕ → Header → Start
start_at entry g = record { entry = entry; white = g.white; black = g.black }

-- the header of a pair's game with a number that begins at t
abbrev pub header_at : Control → ℕ → ℕ → Pair → Header
header_at control t number pair = record { id = number; white = pair.white; black = pair.black; control = control; start = t }

-- the headers of the games of these pairs, numbered from a number on, that begin at t
abbrev pub headers_from : Control → ℕ → ℕ → List Pair → List Header
headers_from control t number [] = []
headers_from control t number (pair ∷ pairs) = header_at control t number pair ∷ headers_from control t (suc number) pairs

-- two players may sit down to a game: they are two, and wait, and there is room for one game more
pub record MaySit (k : KeptPeople) (white black : ℕ) : Type 0 where
  pub white_player : white < length k.places
  pub black_player : black < length k.places
  pub two : white ≢ black
  pub white_waits : IsTrue (is_waiting (seat_at (place_at k.places white)))
  pub black_waits : IsTrue (is_waiting (seat_at (place_at k.places black)))
  pub few : k.pairings.begun < max_games

-- these are the headers of the games that a wave of the plan of the first n entries begins behind these at a stamp
abbrev pub AreHeaders : Setup → List Entry → ℕ → ℕ → List Header → Type 0
AreHeaders s es t n headers = headers ≡ headers_from s.control t (length (history s es).starts) (started s (history s es) n)

-- the games of these headers are prepared, and there is room for them behind so many others
pub record IsReady (g : games.KeptGames) (p : KeptPeople) (begun : ℕ) (headers : List Header) (prepared : List Kept) : Type 0 where
  pub games : ArePrepared prepared (map course.begun headers)
  pub count : length prepared ≡ length headers
  pub games_room : length prepared ≤ g.spare
  pub people_room : begun + length headers ≤ p.room
