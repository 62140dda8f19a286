use Rattle.std.proofs.Common.{◌∙◌, refl}
use Rattle.bitboards.proofs.Masks.{has-from}
use Rattle.bitboards.proofs.squares.squares_from.Goals as goal

pub returns : goal.returns
returns c = λ t on. has-from c.index.result t c.index.ensures.on_board on ∙ rw (c.index.ensures.is) refl
