use Rattle.std.proofs.Common.{refl}
use Rattle.std.proofs.lemmas.Option.{slice_get_read}
use Rattle.table_text.proofs.TeamLines.{team_rows_more}
use Rattle.table_text.proofs.team_lines.push_teams.Goals as goal

pub loop-row-preserved : goal.loop-row-preserved
loop-row-preserved c =
    team_rows_more c.args.teams.now c.args.rows.now c.loop-row.row-index _ c.index-teams-row.result _ _ _
    c.loop-row-test.true
    (slice_get_read c.args.teams.now _ _ c.index-teams-row.result refl (c.requires c.loop-row.row-index _ c.loop-row-test.true) c.index-teams-row.is)
    c.in_ok-push_team.ensures c.loop-row.invariant
