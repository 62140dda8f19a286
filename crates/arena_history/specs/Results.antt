-- What the counted games come to for each player.
use Rattle.std.specs.Prelude.{ℕ, ℤ, Bool, if◌then◌else◌, List, map, slice_get, Option, Some, None}
use Rattle.std.specs.List.{filter_map}
use Rattle.std.specs.Option.{option_map, option_map_or}
use Rattle.board.specs.declared.piece.Colour.{Colour}
use Rattle.board.specs.declared.piece.Colour.TheVariants.{White, Black}
use Rattle.board.specs.Piece.{other, same_colour}
use Rattle.entries.specs.declared.setup.Player.{Player}
use Rattle.entries.specs.declared.setup.Setup.{Setup}
use Rattle.game_room.specs.declared.outcome.Outcome.{Outcome}
use Rattle.sheet.specs.declared.score.Score.{Score}
use Rattle.sheet.specs.declared.score.Score.TheVariants.{Win, Draw, Loss}
use Rattle.sheet.specs.Worth.{Played, looking_back, last_two_won, points}
use Rattle.performance.specs.Mean.{Met, performance}
use Rattle.arena_history.specs.History.{History}
use Rattle.arena_history.specs.Games.{side_of, player_on}
use Rattle.arena_history.specs.Endings.{EndedGame, finished}

-- a counted game as one of its players sees it: how it ended for him, whether he berserked, its plies, and the rating of
-- the other player
pub record GameResult : Type 0 where
  pub score : Score
  pub berserk : Bool
  pub plies : ℕ
  pub rating : ℕ

-- how a game with this winner ended for a side
abbrev pub score_for : Colour → Option Colour → Score
score_for side None = Draw
score_for side (Some winner) = if same_colour side winner then Win else Loss

-- whether a side berserked
abbrev pub berserk_for : Colour → Outcome → Bool
berserk_for White o = o.white_berserk
berserk_for Black o = o.black_berserk

-- the rating of the player with this number, or 0 where nobody has it
abbrev pub rating_of : Setup → ℕ → ℕ
rating_of s p = option_map_or (λ (x : Player). x.rating) (slice_get s.players p) 0

-- what an ended game is for a side
abbrev pub result_on : Setup → EndedGame → Colour → GameResult
result_on s x side = record { score = score_for side x.outcome.winner; berserk = berserk_for side x.outcome; plies = x.outcome.plies; rating = rating_of s (player_on (other side) x.game.header) }

-- what an ended game is for p, if he played it
abbrev pub result_for : Setup → ℕ → EndedGame → Option GameResult
result_for s p x = option_map (result_on s x) (side_of x.game.header p)

-- p's results in these games, in their order
unfoldable pub results_among : Setup → List EndedGame → ℕ → List GameResult
results_among s games p = filter_map (result_for s p) games

-- p's counted games, in the order in which they ended
unfoldable pub results : Setup → History → ℕ → List GameResult
results s h p = results_among s (finished s h) p

-- what a counted game is for the points
abbrev pub played_of : GameResult → Played
played_of r = record { score = r.score; berserk = r.berserk; plies = r.plies }

-- what a counted game is for the performance
abbrev pub met_of : GameResult → Met
met_of r = record { rating = r.rating; score = r.score }

-- the points of counted games
abbrev pub points_of : List GameResult → ℕ
points_of rs = points (map played_of rs)

-- the performance of counted games
abbrev pub performance_of : List GameResult → ℤ
performance_of rs = performance (map met_of rs)

-- the last two of counted games are wins
abbrev pub fire_of : List GameResult → Bool
fire_of rs = last_two_won (looking_back (map played_of rs))
