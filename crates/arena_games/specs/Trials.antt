-- What tests know of the games that they play.
use Rattle.std.specs.Prelude.{ℕ, ◌≤◌, List, length}
use Rattle.std.specs.List.{All}
use Rattle.arena_games.specs.Courses.{Course, IsPast, looked_below}
use Rattle.arena_games.specs.KeptGames.{KeptGames, StandsFor}

-- it stands for some games in which nothing is later than t, with at most n events each
pub record Lasts (k : KeptGames) (t n : ℕ) : Type 0 where
  pub games : List Course
  pub stands : StandsFor k games
  pub past : All (IsPast t) games
  pub few : All (λ (c : Course). length c.events ≤ n) games

-- a look at t has come to the games with numbers from m on
pub record IsLooking (k : KeptGames) (m t : ℕ) : Type 0 where
  pub games : List Course
  pub stands : StandsFor k (looked_below m t games)
  pub past : All (IsPast t) games
