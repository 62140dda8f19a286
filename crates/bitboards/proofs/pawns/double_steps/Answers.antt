use Rattle.std.proofs.Common.{◌∙◌, ◌&&◌, ap, sym, arith}
use Rattle.board.specs.Attack.{piece_on}
use Rattle.board.specs.Pawns.{ahead, pawn_rank}
use Rattle.board.proofs.SetLaws.{and_of, not_of}
use Rattle.bitboards.proofs.Turned.{none_by_some}
use Rattle.bitboards.proofs.Ahead.{double_where}
use Rattle.bitboards.proofs.pawns.double_steps.Goals as goal

pub returns-then-single_steps-ne0 : goal.returns-then-single_steps-ne0
returns-then-single_steps-ne0 c = λ t on.
    and_of c.two_ahead.result _ _ _ c.two_ahead.ensures (not_of c.occupied.result _ (omega arith) c.occupied.ensures) t on
    ∙ rw (c.turn-then-single_steps-ne0.ensures, c.placement.ensures) (ap (λ b. ahead c.args.bits.now.turn 2 c.args.from t && b) (sym (none_by_some (piece_on c.args.bits.now.cells t))))
    ∙ double_where c.args.bits.now c.args.from t c.single_steps.result c.single_steps.ensures.on_board on (omega arith) c.single_steps.ensures.is
    (sym c.rank.ensures.is ∙ c.if-rank-pawn_rank_of.true ∙ c.pawn_rank_of.ensures ∙ ap pawn_rank c.turn.ensures)
    (λ e. c.if-single_steps-ne0.true e)
