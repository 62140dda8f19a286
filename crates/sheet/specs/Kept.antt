-- What a sheet keeps, and the list of games that it stands for.
use Rattle.std.specs.Prelude.{◌≡◌, ℕ, Bool, List, length}
use Rattle.sheet.specs.Worth.{Played, looking_back, last_won, last_two_won, draw_streak, points}

-- the points and the number of the games, and what the next game's worth depends on
pub record Kept : Type 0 where
  pub points : ℕ
  pub games : ℕ
  pub last_won : Bool
  pub last_two_won : Bool
  pub draw_streak : Bool

-- each kept fact is that of the list of games
pub record StandsFor (kept : Kept) (played : List Played) : Type 0 where
  pub points : kept.points ≡ points played
  pub games : kept.games ≡ length played
  pub last_won : kept.last_won ≡ last_won (looking_back played)
  pub last_two_won : kept.last_two_won ≡ last_two_won (looking_back played)
  pub draw_streak : kept.draw_streak ≡ draw_streak (looking_back played)
