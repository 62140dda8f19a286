-- What contracts see of the games of an arena, and for which games these stand.
use Rattle.std.specs.Prelude.{ℕ, List}
use Rattle.std.specs.List.{All, AllZip}
use Rattle.arena_games.specs.declared.kept.Kept.{Kept}
use Rattle.arena_games.specs.Courses.{Course, IsPast, IsShort}
use Rattle.arena_games.specs.Keeps.{KeptFor}

-- what is kept of each game, by its number, and for how many games more there is room
pub record KeptGames : Type 0 where
  pub games : List Kept
  pub spare : ℕ

-- the games that were begun, by their numbers, are these
abbrev pub StandsFor : KeptGames → List Course → Type 0
StandsFor k games = AllZip KeptFor k.games games

-- it stands for some games in which nothing is later than t
pub record IsTimely (k : KeptGames) (t : ℕ) : Type 0 where
  pub games : List Course
  pub stands : StandsFor k games
  pub past : All (IsPast t) games

-- it stands for some games in which nothing is later than t, each short enough for one event more
pub record MayGoOn (k : KeptGames) (t : ℕ) : Type 0 where
  pub games : List Course
  pub stands : StandsFor k games
  pub past : All (IsPast t) games
  pub short : All IsShort games
