-- What a team has, and the table of the teams.
use Rattle.std.specs.Prelude.{ℕ, ℤ, suc, pos, negsuc, ◌==◌, ◌≤◌, ◌<◌, ◌+ℤ◌, ◌≤ℤ◌, Bool, false, List, [], ◌∷◌, length, map, filter, take, fold, sum_by, slice_get, Option, Some, None}
use Rattle.std.specs.List.{range_with_len}
use Rattle.std.specs.Option.{option_and_then}
use Rattle.std.specs.Ordering.{is_lt}
use Rattle.entries.specs.declared.setup.Player.{Player}
use Rattle.entries.specs.declared.setup.Setup.{Setup}
use Rattle.ranking.specs.declared.row.Row.{Row}
use Rattle.ranking.specs.Order.{in_order}
use Rattle.team_battle.specs.Compare.{tally_cmp}
use Rattle.team_battle.specs.declared.tally.Tally.{Tally}
use Rattle.team_battle.specs.declared.team_row.TeamRow.{TeamRow}

-- a row of one of so many players, with at most 1,000,000 points and a performance from -500 to 4,500
pub record IsRowOf (players : ℕ) (row : Row) : Type 0 where
  pub player : row.player < players
  pub points_most : row.points ≤ 1000000
  pub performance_least : negsuc 499 ≤ℤ row.performance
  pub performance_most : row.performance ≤ℤ pos 4500

-- the team of the player with this number, or none
abbrev pub team_of : Setup → ℕ → Option ℕ
team_of s p = option_and_then (λ (player : Player). player.team) (slice_get s.players p)

-- it is this team
abbrev pub is_team : ℕ → Option ℕ → Bool
is_team team None = false
is_team team (Some other) = other == team

-- the row is of a player of the team
abbrev pub is_of : Setup → ℕ → Row → Bool
is_of s team row = is_team team (team_of s row.player)

-- the rows that count for a team: those of its players, in the order of the rows, as many as a team has leaders
abbrev pub leaders : Setup → List Row → ℕ → List Row
leaders s rows team = take s.leaders (filter (is_of s team) rows)

-- the points of rows, summed
abbrev pub points_of : List Row → ℕ
points_of rows = sum_by (λ (row : Row). row.points) rows

-- the performances of rows, summed
abbrev pub performance_of : List Row → ℤ
performance_of rows = fold (λ sum (row : Row). sum +ℤ row.performance) (pos 0) rows

-- what a team has: how many rows count for it, and their points and performances, summed
unfoldable pub tally : Setup → List Row → ℕ → Tally
tally s rows team = record {
  team = team;
  leaders = length (leaders s rows team);
  points = points_of (leaders s rows team);
  performance = performance_of (leaders s rows team);
}

-- what each team has, by the numbers of the teams
abbrev pub tallies : Setup → List Row → List Tally
tallies s rows = map (tally s rows) (range_with_len 0 (length s.teams))

-- x has more points than y, or with as many a better performance, or with that the same too the smaller number
abbrev pub above : Tally → Tally → Bool
above x y = is_lt (tally_cmp x y)

-- the row of a team at a rank
abbrev pub team_row : ℕ → Tally → TeamRow
team_row rank t = record { rank = rank; team = t.team; points = t.points; performance = t.performance }

-- rows for teams one behind the other, from a rank on
abbrev pub team_rows_from : ℕ → List Tally → List TeamRow
team_rows_from rank [] = []
team_rows_from rank (t ∷ rest) = team_row rank t ∷ team_rows_from (suc rank) rest

-- the table of the teams of a setup, from the rows of its players in their table's order
unfoldable pub teams : Setup → List Row → List TeamRow
teams s rows = team_rows_from 0 (in_order above (tallies s rows))
