use Rattle.std.proofs.Common.{◌∙◌, refl}
use Rattle.bitboards.proofs.Masks.{has-up_to}
use Rattle.bitboards.proofs.squares.squares_to.Goals as goal

pub returns : goal.returns
returns c = λ t on. has-up_to c.index.result t c.index.ensures.on_board on ∙ rw (c.index.ensures.is) refl
