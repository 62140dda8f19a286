-- Which games an entry ends, and which of them count.
use Rattle.std.specs.Prelude.{nat_lt, if◌then◌else◌, ◌++◌, List, [], Option}
use Rattle.std.specs.List.{filter_map}
use Rattle.std.specs.Option.{option_map}
use Rattle.entries.specs.declared.journal.Entry.{Entry}
use Rattle.entries.specs.declared.setup.Setup.{Setup}
use Rattle.game_room.specs.declared.outcome.Outcome.{Outcome}
use Rattle.arena_history.specs.History.{History, with_entry, along}
use Rattle.arena_history.specs.Games.{Begun, outcome_of, running}

-- a game that ended, and how
pub record EndedGame : Type 0 where
  pub game : Begun
  pub outcome : Outcome

-- a game with its outcome, if it has one
abbrev pub ended : History → Begun → Option EndedGame
ended h g = option_map (λ o. record { game = g; outcome = o }) (outcome_of h g)

-- the games that an entry ends: those that run before it and are over with it, by number
unfoldable pub ended_by : Setup → History → Entry → List EndedGame
ended_by s h e = filter_map (ended (with_entry h e)) (running s h)

-- the games that count of those that an entry ends: all of them before the arena's end, and none from it on
abbrev pub counted_by : Setup → History → Entry → List EndedGame
counted_by s h e = if nat_lt e.stamp s.ends then ended_by s h e else []

-- the counted games with one entry more
abbrev pub finished_step : Setup → History → Entry → List EndedGame → List EndedGame
finished_step s h e done = done ++ counted_by s h e

-- the games that count, by the entry that ended them and then by number
unfoldable pub finished : Setup → History → List EndedGame
finished s h = along (finished_step s) [] h
