-- Laws of what games are worth, for every list of games.
use Rattle.std.specs.Prelude.{◌≡◌, ℕ, ◌*◌, ◌<◌, ◌≤◌, ◌⊎◌, ◌↔◌, IsTrue, List, ◌∷◌, ◌++◌, length}
use Rattle.std.specs.List.{All}
use Rattle.sheet.specs.declared.score.Score.TheVariants.{Draw, Loss}
use Rattle.sheet.specs.Worth.{Played, draw_streak, points}

-- a loss, or a draw of fewer than 20 plies: it neither begins a streak of draws nor ends one
abbrev pub IsPassedOver : Played → Type 0
IsPassedOver game = (game.score ≡ Loss) ⊎ ((game.score ≡ Draw) × (game.plies < 20))

-- some game before, of the list that has the latest first, is a draw of 20 plies or more, and all since are passed over
pub record IsInStreak (back : List Played) : Type 0 where
  pub since : List Played
  pub draw : Played
  pub older : List Played
  pub place : back ≡ since ++ draw ∷ older
  pub drawn : draw.score ≡ Draw
  pub long : 20 ≤ draw.plies
  pub passed_over : All IsPassedOver since

-- a streak of draws holds exactly there
abbrev pub StreakMeans : Type 0
StreakMeans = (back : List Played) → IsTrue (draw_streak back) ↔ IsInStreak back

-- a game is worth at most five points
abbrev pub PointsAreFew : Type 0
PointsAreFew = (played : List Played) → points played ≤ 5 * length played
