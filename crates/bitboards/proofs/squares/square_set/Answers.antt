use Rattle.std.proofs.Common.{◌∙◌, ap, refl}
use Rattle.std.proofs.lemmas.Nat.{one_shl}
use Rattle.bitboards.proofs.Masks.{has-pow}
use Rattle.board.specs.Sets.{has}
use Rattle.bitboards.proofs.squares.square_set.Goals as goal

pub returns : goal.returns
returns c = λ t on. ap (λ n. has n t) (one_shl c.index.result 64 c.index.ensures.on_board) ∙ has-pow c.index.result t ∙ rw (c.index.ensures.is) refl
