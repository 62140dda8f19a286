use Rattle.std.proofs.Common.{◌≡◌, take}
use Rattle.team_battle.specs.Teams.{team_rows_from}
use Rattle.team_battle.proofs.table.team_rows.Given as goal

abbrev pub invariant-ranking : goal.invariant-ranking
invariant-ranking l = l.rows.items ≡ take l.rank (team_rows_from 0 l.teams)
