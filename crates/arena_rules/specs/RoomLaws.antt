-- Laws of the games of a legal list: their headers, when their events happened, and that rooms may be asked.
use Rattle.std.specs.Prelude.{◌≡◌, ◌≢◌, ℕ, ◌<◌, ◌≤◌, List, length, IsTrue}
use Rattle.std.specs.List.{All}
use Rattle.entries.specs.declared.journal.Entry.{Entry}
use Rattle.entries.specs.declared.setup.Setup.{Setup}
use Rattle.entries.specs.Limits.{max_stamp, max_entries, max_games}
use Rattle.entries.specs.Ranges.{IsControl, IsGood}
use Rattle.game_room.specs.Events.{Event}
use Rattle.game_room.specs.Games.{standing}
use Rattle.arena_history.specs.GameLaws.{IsGameOf}
use Rattle.arena_history.specs.Games.{Begun, events}
use Rattle.arena_history.specs.Stamps.{last_stamp}
use Rattle.arena_history.specs.Waves.{history}
use Rattle.arena_history.specs.Wishes.{has_entered}
use Rattle.arena_rules.specs.Legal.{IsLegal}

-- a game's number, control, start and players are in range: its control is the setup's, and two players of the setup play it
pub record HasHeaderInRange (s : Setup) (g : Begun) : Type 0 where
  pub number : g.header.id < max_games
  pub control : g.header.control ≡ s.control
  pub timed : IsControl g.header.control
  pub start_most : g.header.start ≤ max_stamp
  pub white : g.header.white < length s.players
  pub black : g.header.black < length s.players
  pub two : g.header.white ≢ g.header.black

-- so it is with every game of a legal list over a good setup
abbrev pub HeadersAreInRange : Type 0
HeadersAreInRange = (s : Setup) (es : List Entry) (g : Begun)
    → IsGood s
    → IsLegal s es
    → IsGameOf s es g
    → HasHeaderInRange s g

-- the players of a game have entered
abbrev pub PlayersHaveEntered : Type 0
PlayersHaveEntered = (s : Setup) (es : List Entry) (g : Begun)
    → IsLegal s es
    → IsGameOf s es g
    → IsTrue (has_entered (history s es) g.header.white) × IsTrue (has_entered (history s es) g.header.black)

-- a game began no later than the last entry, what happened in it happened from its start to the last entry, and that is less
-- than entries came, so fewer than 8,000,000 events
pub record IsTimed (s : Setup) (es : List Entry) (g : Begun) : Type 0 where
  pub began : g.header.start ≤ last_stamp es
  pub from_start : All (λ (x : Event). g.header.start ≤ x.stamp) (events (history s es) g)
  pub to_last : All (λ (x : Event). x.stamp ≤ last_stamp es) (events (history s es) g)
  pub fewer : length (events (history s es) g) < length es
  pub few : length (events (history s es) g) < max_entries

-- so it is with every game of a legal list
abbrev pub GamesAreTimed : Type 0
GamesAreTimed = (s : Setup) (es : List Entry) (g : Begun) → IsLegal s es → IsGameOf s es g → IsTimed s es g

-- at the last stamp and later the clocks of a game's room may be read, and its plies leave room for one more
abbrev pub RoomsMayBeAsked : Type 0
RoomsMayBeAsked = (s : Setup) (es : List Entry) (g : Begun) (t : ℕ)
    → IsLegal s es
    → IsGameOf s es g
    → last_stamp es ≤ t
    → ((standing g.header (events (history s es) g)).clocks.since ≤ t)
    × ((standing g.header (events (history s es) g)).clocks.moves < max_entries)
