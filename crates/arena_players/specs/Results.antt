-- What is kept of a player's counted games.
use Rattle.std.specs.Prelude.{ℕ, ◌≤◌, List, map}
use Rattle.board.specs.declared.piece.Colour.{Colour}
use Rattle.game_room.specs.declared.outcome.Outcome.{Outcome}
use Rattle.performance.specs.Kept as performance
use Rattle.sheet.specs.Kept as sheet
use Rattle.arena_history.specs.Results.{GameResult, score_for, berserk_for, played_of, met_of}
use Rattle.arena_players.specs.declared.account.Account.{Account}

-- the sheet and the performance are those of these results
pub record HasResults (a : Account) (rs : List GameResult) : Type 0 where
  pub sheet : sheet.StandsFor a.sheet (map played_of rs)
  pub perf : performance.StandsFor a.perf (map met_of rs)

-- what a game that ended so is for a side, against a player of this rating
abbrev pub result_of : Colour → Outcome → ℕ → GameResult
result_of side o rating = record { score = score_for side o.winner; berserk = berserk_for side o; plies = o.plies; rating = rating }

-- the rating is at most 4,000, and no more than n games were added
pub record IsWithin (n : ℕ) (a : Account) : Type 0 where
  pub rated : a.rating ≤ 4000
  pub sheet : a.sheet.games ≤ n
  pub perf : a.perf.games ≤ n
