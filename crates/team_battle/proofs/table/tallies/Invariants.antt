use Rattle.std.proofs.Common.{◌≡◌, take}
use Rattle.team_battle.specs.Teams.{tallies}
use Rattle.team_battle.proofs.table.tallies.Given as goal

abbrev pub invariant-counting : goal.invariant-counting
invariant-counting l = l.teams.items ≡ tallies l.setup (take l.row-index l.rows)
