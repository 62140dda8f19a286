use Rattle.std.proofs.lemmas.List.Elements.{All-push, All-same}
use Rattle.team_battle.specs.Teams.{IsRowOf}
use Rattle.team_battle.proofs.tests.rows_of.Goals as goal

pub making-preserved : goal.making-preserved
making-preserved g c = All-same (IsRowOf 6) _ _ c.in_ok-push.ensures.items (All-push (IsRowOf 6) c.making.rows.items c.row_of-row.result c.making.invariant c.row_of-row.ensures)
