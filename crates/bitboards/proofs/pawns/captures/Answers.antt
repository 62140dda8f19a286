use Rattle.std.proofs.Common.{◌∙◌, refl}
use Rattle.board.proofs.SetLaws.{and_of, or_of}
use Rattle.bitboards.proofs.pawns.captures.Goals as goal

pub returns : goal.returns
returns c = λ t on.
    and_of c.pawn_strikes.result _ _ _ c.pawn_strikes.ensures.is (or_of c.of_colour-enemies.result c.ep_set.result _ _ c.of_colour-enemies.ensures c.ep_set.ensures) t on
    ∙ rw (c.turn-2.ensures, c.other.ensures, c.turn.ensures, c.placement.ensures, c.ep.ensures) refl
