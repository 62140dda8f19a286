-- Where a piece of the side to move can go, its own king left out of account.
use Rattle.std.specs.Prelude.{ℕ, Bool, false, ◌&&◌, ◌||◌, not, Option, None, Some}
use Rattle.board.specs.declared.piece.Kind.{Kind}
use Rattle.board.specs.declared.piece.Kind.TheVariants.{Pawn, King}
use Rattle.board.specs.declared.piece.Piece.{Piece}
use Rattle.board.specs.declared.parts.Parts.{Parts}
use Rattle.board.specs.Piece.{same_colour}
use Rattle.board.specs.Attack.{piece_on, king_step, strikes_as}
use Rattle.board.specs.Cells.{is_of}
use Rattle.board.specs.Pawns.{pawn_reaches}
use Rattle.board.specs.Castling.{castles}

-- a king steps to a neighbouring square or castles
abbrev pub king_reaches : Parts → ℕ → ℕ → Bool
king_reaches p a b = king_step a b || castles p a b

-- by kind: pawns and kings have rules of their own, all others go where they strike
abbrev pub kind_reaches : Parts → Kind → ℕ → ℕ → Bool
kind_reaches p Pawn a b = pawn_reaches p a b
kind_reaches p King a b = king_reaches p a b
kind_reaches p kind a b = strikes_as p.cells kind p.turn a b

-- what stands in a's cell is of the side to move and goes to b, where none of its own side stands
abbrev pub cell_reaches : Parts → ℕ → ℕ → Option Piece → Bool
cell_reaches p a b None = false
cell_reaches p a b (Some piece) =
    same_colour piece.colour p.turn && not (is_of p.turn (piece_on p.cells b)) && kind_reaches p piece.kind a b

-- a piece of the side to move stands on a and goes to b
unfoldable pub reaches : Parts → ℕ → ℕ → Bool
reaches p a b = cell_reaches p a b (piece_on p.cells a)
