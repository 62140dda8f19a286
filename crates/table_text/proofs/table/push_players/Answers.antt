use Rattle.std.proofs.Common.{refl}
use Rattle.std.proofs.lemmas.Option.{slice_get_read}
use Rattle.table_text.proofs.Lines.{rows_more}
use Rattle.table_text.proofs.table.push_players.Goals as goal

pub loop-row-preserved : goal.loop-row-preserved
loop-row-preserved c =
    rows_more c.args.players.now c.args.rows.now c.loop-row.row-index _ c.index-players-row.result _ _ _
    c.loop-row-test.true
    (slice_get_read c.args.players.now _ _ c.index-players-row.result refl (c.requires c.loop-row.row-index _ c.loop-row-test.true) c.index-players-row.is)
    c.in_ok-push_player.ensures c.loop-row.invariant
