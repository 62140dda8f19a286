-- Games that begin.
use Rattle.std.specs.Prelude.{◌≤◌, List}
use Rattle.std.specs.List.{AllZip}
use Rattle.entries.specs.Ranges.{IsControl}
use Rattle.game_room.specs.declared.header.Header.{Header}
use Rattle.arena_games.specs.declared.kept.Kept.{Kept}
use Rattle.arena_games.specs.Courses.{Course}
use Rattle.arena_games.specs.Keeps.{KeptFor}
use Rattle.entries.specs.Limits.{max_stamp}

-- a header with a control and a start in their ranges
pub record MayBegin (h : Header) : Type 0 where
  pub timed : IsControl h.control
  pub stamped : h.start ≤ max_stamp

-- the games that are prepared are these
abbrev pub ArePrepared : List Kept → List Course → Type 0
ArePrepared prepared games = AllZip KeptFor prepared games
