-- The printed table.
use Rattle.std.specs.Prelude.{ℕ, ◌+◌, List, [], ◌∷◌, ◌++◌, length, slice_get, take, codes}
use Rattle.std.specs.List.{flat_map}
use Rattle.std.specs.Fmt.{decimal, signed_decimal}
use Rattle.std.specs.Option.{option_map_or}
use Rattle.entries.specs.declared.setup.Player.{Player}
use Rattle.entries.specs.declared.setup.Setup.{Setup}
use Rattle.entries.specs.declared.journal.Entry.{Entry}
use Rattle.arena_history.specs.History.{History}
use Rattle.arena_history.specs.Endings.{finished}
use Rattle.arena_history.specs.Waves.{history}
use Rattle.arena_history.specs.Table.{standings, team_standings}
use Rattle.ranking.specs.declared.row.Row.{Row}
use Rattle.team_battle.specs.declared.team_row.TeamRow.{TeamRow}
use Rattle.journal_text.specs.Lines.{line}

-- how many games count: those that ended before the arena's end
abbrev pub counted_games : Setup → History → ℕ
counted_games s h = length (finished s h)

-- `POINTS PERFORMANCE GAMES`
abbrev pub score_words : Row → List (List ℕ)
score_words row = decimal row.points ∷ signed_decimal row.performance ∷ decimal row.games ∷ []

-- `PLACE NAME RATING POINTS PERFORMANCE GAMES`, the place one more than the rank
unfoldable pub player_line : Player → Row → List ℕ
player_line p row = line (decimal (row.rank + 1) ∷ p.name ∷ decimal p.rating ∷ score_words row)

-- the line of a row, where one of the players has its number
unfoldable pub row_line : List Player → Row → List ℕ
row_line players row = option_map_or (λ (p : Player). player_line p row) (slice_get players row.player) []

-- `POINTS PERFORMANCE`
abbrev pub team_words : TeamRow → List (List ℕ)
team_words row = decimal row.points ∷ signed_decimal row.performance ∷ []

-- `team PLACE NAME POINTS PERFORMANCE`, the place one more than the rank
unfoldable pub team_line : List ℕ → TeamRow → List ℕ
team_line name row = line (codes "team" ∷ decimal (row.rank + 1) ∷ name ∷ team_words row)

-- the line of a team's row, where one of the teams has its number
unfoldable pub team_row_line : List (List ℕ) → TeamRow → List ℕ
team_row_line names row = option_map_or (λ name. team_line name row) (slice_get names row.team) []

-- `games F entries N`: how many games count, and how many entries there are
unfoldable pub count_line : ℕ → ℕ → List ℕ
count_line games entries =
    line (codes "games" ∷ decimal games ∷ codes "entries" ∷ decimal entries ∷ [])

-- the table of a setup and a list of entries: a line for each player who entered, in the order of the table, a line for each
-- team, in the order of the teams, and the last line
unfoldable pub table : Setup → List Entry → List ℕ
table s es =
    let h = history s es in
    flat_map (row_line s.players) (standings s h) ++ flat_map (team_row_line s.teams) (team_standings s h) ++ count_line (counted_games s h) (length es)

-- the beginning and the end of that table: the lines of its first ten players, and the last line
unfoldable pub summary : Setup → List Entry → List ℕ
summary s es =
    let h = history s es in
    flat_map (row_line s.players) (take 10 (standings s h)) ++ count_line (counted_games s h) (length es)
