use Rattle.std.proofs.Common.{◌∙◌}
use Rattle.board.proofs.SetLaws.{and_of, or_of}
use Rattle.bitboards.proofs.Strikers.{strike_tells}
use Rattle.bitboards.proofs.attack.attackers.Goals as goal

pub returns : goal.returns
returns c = λ t on.
    and_of _ _ _ _
    (or_of _ _ _ _
    (or_of _ _ _ _
    (or_of _ _ _ _
    (or_of _ _ _ _ (and_of _ _ _ _ c.of_kind.ensures c.pawn_strikes.ensures.is) (and_of _ _ _ _ c.of_kind-2.ensures c.knight_steps.ensures.is))
    (and_of _ _ _ _ c.of_kind-3.ensures c.king_steps.ensures.is))
    (and_of _ _ _ _ (or_of _ _ _ _ c.of_kind-4.ensures c.of_kind-queens.ensures) c.bishop_strikes.ensures))
    (and_of _ _ _ _ (or_of _ _ _ _ c.of_kind-5.ensures c.of_kind-queens.ensures) c.rook_strikes.ensures))
    c.of_colour.ensures t on
    ∙ rw (c.other.ensures) (strike_tells c.args.board.now c.args.by c.args.s t c.keeps.ensures c.knight_steps.ensures.on_board on)
