use Rattle.std.proofs.Common.{◌∙◌, refl}
use Rattle.board.specs.Attack.{strikes_as}
use Rattle.bitboards.proofs.bits.Bits.kind_targets.Goals as goal

pub returns-in-Knight : goal.returns-in-Knight
unfolding strikes_as
returns-in-Knight c = λ t on. c.knight_steps.ensures.is t on ∙ rw (c.in-Knight.is) refl

pub returns-in-Bishop : goal.returns-in-Bishop
unfolding strikes_as
returns-in-Bishop c = λ t on. c.bishop_strikes.ensures t on ∙ rw (c.in-Bishop.is, c.placement-placement.ensures) refl

pub returns-in-Rook : goal.returns-in-Rook
unfolding strikes_as
returns-in-Rook c = λ t on. c.rook_strikes.ensures t on ∙ rw (c.in-Rook.is, c.placement-placement.ensures) refl

pub returns-in-Queen : goal.returns-in-Queen
unfolding strikes_as
returns-in-Queen c = λ t on. c.queen_strikes.ensures t on ∙ rw (c.in-Queen.is, c.placement-placement.ensures) refl
