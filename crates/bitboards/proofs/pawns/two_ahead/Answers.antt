use Rattle.std.proofs.Common.{◌∙◌, refl}
use Rattle.bitboards.proofs.Ahead.{up_two_at, down_two_at}
use Rattle.bitboards.proofs.pawns.two_ahead.Goals as goal

pub returns-in-White : goal.returns-in-White
returns-in-White c = λ t on. up_two_at c.index.result c.index.ensures.on_board t on ∙ rw (c.in-White.is, c.index.ensures.is) refl

pub returns-in-Black : goal.returns-in-Black
returns-in-Black c = λ t on. down_two_at c.index.result c.index.ensures.on_board t on ∙ rw (c.in-Black.is, c.index.ensures.is) refl
