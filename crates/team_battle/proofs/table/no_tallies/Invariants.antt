use Rattle.std.proofs.Common.{◌≡◌, map, []}
use Rattle.std.specs.List.{range_with_len}
use Rattle.team_battle.specs.Teams.{tally}
use Rattle.team_battle.proofs.table.no_tallies.Given as goal

abbrev pub invariant-starting : goal.invariant-starting
invariant-starting l = l.teams.items ≡ map (tally l.setup []) (range_with_len 0 l.team)
