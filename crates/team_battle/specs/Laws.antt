-- Laws of the table of the teams, for every setup and every list of rows.
use Rattle.std.specs.Prelude.{◌≡◌, ◌≢◌, ℕ, ◌<◌, ◌⊎◌, List, length, map, slice_get, Some, IsTrue}
use Rattle.std.specs.List.{range_with_len}
use Rattle.std.specs.List.Sorted.{IsPermutation}
use Rattle.entries.specs.declared.setup.Setup.{Setup}
use Rattle.ranking.specs.declared.row.Row.{Row}
use Rattle.team_battle.specs.declared.tally.Tally.{Tally}
use Rattle.team_battle.specs.declared.team_row.TeamRow.{TeamRow}
use Rattle.team_battle.specs.Teams.{tally, above, team_row, teams}

-- each team of the setup stands in the table once, and no other
abbrev pub EachTeamOnce : Type 0
EachTeamOnce = (s : Setup) (rows : List Row) → IsPermutation (range_with_len 0 (length s.teams)) (map (λ (row : TeamRow). row.team) (teams s rows))

-- the row at rank k has rank k and what its team has
abbrev pub RowsAreOfTheirTeams : Type 0
RowsAreOfTheirTeams = (s : Setup) (rows : List Row) (k : ℕ) (row : TeamRow) → slice_get (teams s rows) k ≡ Some row → row ≡ team_row k (tally s rows row.team)

-- a team stands above those at greater ranks
abbrev pub TeamsAreInOrder : Type 0
TeamsAreInOrder = (s : Setup) (rows : List Row) (i j : ℕ) (x y : TeamRow) → i < j → slice_get (teams s rows) i ≡ Some x → slice_get (teams s rows) j ≡ Some y → IsTrue (above (tally s rows x.team) (tally s rows y.team))

-- no team stands above itself
abbrev pub NoneAboveItself : Type 0
NoneAboveItself = (x : Tally) → ¬ IsTrue (above x x)

-- a team that stands above one that stands above a third stands above the third
abbrev pub AboveIsTransitive : Type 0
AboveIsTransitive = (x y z : Tally) → IsTrue (above x y) → IsTrue (above y z) → IsTrue (above x z)

-- of two teams with different numbers one stands above the other
abbrev pub AboveIsTotal : Type 0
AboveIsTotal = (x y : Tally) → x.team ≢ y.team → IsTrue (above x y) ⊎ IsTrue (above y x)
