-- What stands on a square, as the rules of the moves ask it.
use Rattle.std.specs.Prelude.{ℕ, Bool, false, List, Option, None, Some, is_none}
use Rattle.board.specs.declared.piece.Colour.{Colour}
use Rattle.board.specs.declared.piece.Kind.{Kind}
use Rattle.board.specs.declared.piece.Piece.{Piece}
use Rattle.board.specs.Piece.{same_colour, same_kind}
use Rattle.board.specs.Attack.{piece_on}

-- a piece of this colour stands in the cell
abbrev pub is_of : Colour → Option Piece → Bool
is_of c None = false
is_of c (Some piece) = same_colour piece.colour c

-- a piece of this kind stands in the cell, of either side
abbrev pub is_kind : Kind → Option Piece → Bool
is_kind k None = false
is_kind k (Some piece) = same_kind piece.kind k

-- nothing stands on the square
abbrev pub is_empty : List (Option Piece) → ℕ → Bool
is_empty cells s = is_none (piece_on cells s)
