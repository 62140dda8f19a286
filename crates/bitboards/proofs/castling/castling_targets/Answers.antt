use Rattle.std.proofs.Common.{◌∙◌}
use Rattle.board.proofs.SetLaws.{or_of}
use Rattle.bitboards.proofs.Ahead.{both_castles}
use Rattle.bitboards.proofs.castling.castling_targets.Goals as goal

pub returns : goal.returns
returns c = λ t on.
    or_of c.set_if.result c.set_if-2.result _ _ c.set_if.ensures c.set_if-2.ensures t on
    ∙ rw (c.of.ensures, c.of-2.ensures, c.index-home.ensures.is, c.home.ensures.is, c.turn.ensures)
    (both_castles c.args.bits.now c.args.from t c.castles_short.result c.castles_long.result c.castles_short.ensures c.castles_long.ensures)
