use Rattle.std.specs.List.{All}
use Rattle.team_battle.specs.Teams.{IsRowOf}
use Rattle.team_battle.proofs.tests.rows_of.Given as goal

abbrev pub invariant-making : goal.invariant-making
invariant-making g l = All (IsRowOf 6) l.rows.items
