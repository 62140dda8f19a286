use Rattle.std.proofs.Common.{◌∙◌, refl}
use Rattle.bitboards.proofs.Ahead.{up_one_at, down_one_at}
use Rattle.bitboards.proofs.pawns.one_ahead.Goals as goal

pub returns-in-White-clause-is : goal.returns-in-White-clause-is
returns-in-White-clause-is c = λ t on. up_one_at c.index.result c.index.ensures.on_board t on ∙ rw (c.in-White.is, c.index.ensures.is) refl

pub returns-in-Black-clause-is : goal.returns-in-Black-clause-is
returns-in-Black-clause-is c = λ t on. down_one_at c.index.result c.index.ensures.on_board t on ∙ rw (c.in-Black.is, c.index.ensures.is) refl
