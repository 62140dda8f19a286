use Rattle.std.proofs.Common.{◌∙◌}
use Rattle.board.specs.Attack.{straight, diagonal, is_clear}
use Rattle.board.proofs.SetLaws.{or_of}
use Rattle.bitboards.proofs.Strikers.{factor}
use Rattle.bitboards.proofs.attack.queen_strikes.Goals as goal

pub returns : goal.returns
returns c = λ t on.
    or_of c.rook_strikes.result c.bishop_strikes.result _ _ c.rook_strikes.ensures c.bishop_strikes.ensures t on
    ∙ factor (straight c.args.s t) (diagonal c.args.s t) (is_clear c.args.board.now c.args.s t)
