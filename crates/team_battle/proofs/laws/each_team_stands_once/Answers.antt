use Rattle.team_battle.proofs.TeamTable.{each_team_once, rows_are_of_their_teams, teams_are_in_order}
use Rattle.team_battle.proofs.laws.each_team_stands_once.Goals as goal

pub returns-clause-once : goal.returns-clause-once
returns-clause-once c = each_team_once

pub returns-clause-rows : goal.returns-clause-rows
returns-clause-rows c = rows_are_of_their_teams

pub returns-clause-order : goal.returns-clause-order
returns-clause-order c = teams_are_in_order
