-- How a game stands: what the rules of acting and ending ask of it.
use Rattle.std.specs.Prelude.{ℕ, Bool, false, ◌&&◌, Option, None, Some, is_some, is_none}
use Rattle.board.specs.declared.piece.Colour.{Colour}
use Rattle.board.specs.declared.piece.Colour.TheVariants.{White, Black}
use Rattle.board.specs.declared.parts.Parts.{Parts}
use Rattle.board.specs.Moves.{MoveWord}
use Rattle.board.specs.Piece.{same_colour}
use Rattle.game_clock.specs.Clocks.{Clocks, is_due}
use Rattle.game_room.specs.declared.outcome.Outcome.{Outcome}

-- the position, how often it has occurred, for how many moves no pawn has moved and nothing was captured, the last move, the
-- clocks, whose offer stands, which sides have offered since the last move, and how the game ended
pub record Standing : Type 0 where
  pub position : Parts
  pub times : ℕ
  pub quiet : ℕ
  pub last : Option MoveWord
  pub clocks : Clocks
  pub offer : Option Colour
  pub white_offered : Bool
  pub black_offered : Bool
  pub outcome : Option Outcome

-- the game has ended
abbrev pub is_over : Standing → Bool
is_over s = is_some s.outcome

-- the game goes on, and the side to move has let its time pass by
abbrev pub is_game_due : Standing → ℕ → Bool
is_game_due s t = is_none s.outcome && is_due s.clocks t

-- a side has offered since the last move
abbrev pub has_offered : Standing → Colour → Bool
has_offered s White = s.white_offered
has_offered s Black = s.black_offered

-- the offer is this side's
abbrev pub is_offer_of : Colour → Option Colour → Bool
is_offer_of side None = false
is_offer_of side (Some by) = same_colour by side
