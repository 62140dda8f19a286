use Rattle.std.proofs.Common.{◌∙◌, ◌&&◌, ap, sym, arith}
use Rattle.board.specs.Attack.{piece_on}
use Rattle.board.specs.Pawns.{ahead}
use Rattle.board.proofs.SetLaws.{and_of, not_of}
use Rattle.bitboards.proofs.Turned.{none_by_some}
use Rattle.bitboards.proofs.pawns.single_steps.Goals as goal

pub returns-clause-is : goal.returns-clause-is
returns-clause-is c = λ t on.
    and_of c.one_ahead.result _ _ _ c.one_ahead.ensures.is (not_of c.occupied.result _ (omega arith) c.occupied.ensures) t on
    ∙ rw (c.turn.ensures, c.placement.ensures) (ap (λ b. ahead c.args.bits.now.turn 1 c.args.from t && b) (sym (none_by_some (piece_on c.args.bits.now.cells t))))
