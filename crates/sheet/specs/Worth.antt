-- What a game is worth, found by looking back over the games before it.
use Rattle.std.specs.Prelude.{ℕ, ◌+◌, ◌*◌, nat_lt, nat_le, ◌&&◌, ◌||◌, Bool, true, false, if◌then◌else◌, List, [], ◌∷◌, length, reverse, take, slice_get, sum_by, Option, Some, None}
use Rattle.std.specs.List.{range_with_len}
use Rattle.sheet.specs.declared.score.Score.{Score}
use Rattle.sheet.specs.declared.score.Score.TheVariants.{Win, Draw, Loss}

-- a counted game of one player: how it ended for him, whether he berserked, and its length in plies
pub record Played : Type 0 where
  pub score : Score
  pub berserk : Bool
  pub plies : ℕ

-- a game that ended with this score, with or without a berserk, after so many plies
abbrev pub game_of : Score → Bool → ℕ → Played
game_of score berserk plies = record { score = score; berserk = berserk; plies = plies }

-- the games before one, the latest first
abbrev pub looking_back : List Played → List Played
looking_back before = reverse before

-- whether a game ended in a win
abbrev pub is_win : Score → Bool
is_win Win = true
is_win Draw = false
is_win Loss = false

-- the last game is a win
abbrev pub last_won : List Played → Bool
last_won [] = false
last_won (last ∷ older) = is_win last.score

-- the last two games are wins
abbrev pub last_two_won : List Played → Bool
last_two_won [] = false
last_two_won (last ∷ older) = is_win last.score && last_won older

-- whether a streak of draws holds once a game ended so: a win ends it, a loss and a short draw leave it, a draw of 20 plies begins it
abbrev pub streak_after : Score → ℕ → Bool → Bool
streak_after Win plies streak = false
streak_after Draw plies streak = nat_le 20 plies || streak
streak_after Loss plies streak = streak

-- since the last win there was a draw of 20 plies or more
abbrev pub draw_streak : List Played → Bool
draw_streak [] = false
draw_streak (last ∷ older) = streak_after last.score last.plies (draw_streak older)

-- a draw is worth nothing under 20 plies, and under 60 within a streak of draws
abbrev pub draw_points : ℕ → Bool → ℕ
draw_points plies streak = if nat_lt plies 20 || (nat_lt plies 60 && streak) then 0 else 1

-- a win is worth two points, a draw one or none, a loss none
abbrev pub base_points : Score → ℕ → Bool → ℕ
base_points Win plies streak = 2
base_points Draw plies streak = draw_points plies streak
base_points Loss plies streak = 0

-- a won game of at least 14 plies is worth one point more to a winner who berserked
abbrev pub berserk_points : Played → ℕ
berserk_points game = if is_win game.score && game.berserk && nat_le 14 game.plies then 1 else 0

-- a game after those before it: doubled where the last two are wins, but for the point of a berserk
abbrev pub worth_after : List Played → Played → ℕ
worth_after back game =
    let base = base_points game.score game.plies (draw_streak back) in
    (if last_two_won back then 2 * base else base) + berserk_points game

-- the same for a game that may not be there
abbrev pub worth_of : List Played → Option Played → ℕ
worth_of back None = 0
worth_of back (Some game) = worth_after back game

-- what game i is worth, looking back from it
unfoldable pub worth : List Played → ℕ → ℕ
worth played i = worth_of (looking_back (take i played)) (slice_get played i)

-- what all games are worth together
unfoldable pub points : List Played → ℕ
points played = sum_by (worth played) (range_with_len 0 (length played))
