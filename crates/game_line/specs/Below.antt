-- The laws of the moves on which the laws of lines rest.
use Rattle.move_rules.specs.Laws.{MovesLeadToPositions, OthersTakeWeight, QuietMovesKeepWeight, EnPassantIsByAMove}

-- where a legal move leads, what it leaves on the board, and when an en passant square counts
pub record LawsOfMoves : Type 0 where
  pub positions : MovesLeadToPositions
  pub others : OthersTakeWeight
  pub quiet : QuietMovesKeepWeight
  pub en_passant : EnPassantIsByAMove
