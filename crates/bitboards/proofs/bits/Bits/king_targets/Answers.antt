use Rattle.board.proofs.SetLaws.{or_of}
use Rattle.bitboards.proofs.bits.Bits.king_targets.Goals as goal

pub returns : goal.returns
returns c = or_of c.king_steps.result c.castling_targets.result _ _ c.king_steps.ensures.is c.castling_targets.ensures
