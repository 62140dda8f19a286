-- The games of a history as courses: what was settled at the beginning of each, and what has happened in it.
use Rattle.std.specs.Prelude.{◌∷◌, [], ◌++◌, List, map}
use Rattle.std.specs.List.{filter_map}
use Rattle.entries.specs.declared.journal.Entry.{Entry}
use Rattle.entries.specs.declared.setup.Setup.{Setup}
use Rattle.arena_history.specs.History.{History}
use Rattle.arena_history.specs.Games.{Begun, begun, event_of, events}
use Rattle.arena_games.specs.Courses.{Course}

-- the course of a game
abbrev pub course : History → Begun → Course
course h g = record { header = g.header; events = events h g }

-- the courses of all games that were begun, by their numbers
unfoldable pub courses : Setup → History → List Course
courses s h = map (course h) (begun s h)

-- a course once an entry came
abbrev pub with_entry : Entry → Course → Course
with_entry e c = record { header = c.header; events = c.events ++ filter_map (event_of c.header) (e ∷ []) }
