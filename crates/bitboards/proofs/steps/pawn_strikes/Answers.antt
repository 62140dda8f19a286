use Rattle.std.proofs.Common.{sym}
use Rattle.bitboards.proofs.Tabled.{white_pawn_at, black_pawn_at}
use Rattle.bitboards.proofs.steps.pawn_strikes.Goals as goal

pub returns-in-White-clause-is : goal.returns-in-White-clause-is
returns-in-White-clause-is c = λ t on. rw (c.in-White.is, sym c.index-s.ensures.is) (white_pawn_at c.index-s.result c.index-s.ensures.on_board t on)

pub returns-in-Black-clause-is : goal.returns-in-Black-clause-is
returns-in-Black-clause-is c = λ t on. rw (c.in-Black.is, sym c.index-s.ensures.is) (black_pawn_at c.index-s.result c.index-s.ensures.on_board t on)
