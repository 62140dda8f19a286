use Rattle.board.proofs.SetLaws.{or_of}
use Rattle.bitboards.proofs.pawns.pawn_targets.Goals as goal

pub returns : goal.returns
returns c = or_of _ _ _ _ (or_of c.single_steps.result c.double_steps.result _ _ c.single_steps.ensures.is c.double_steps.ensures) c.captures-2.ensures
