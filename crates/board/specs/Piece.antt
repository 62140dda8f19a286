-- Colours, kinds and pieces.
use Rattle.std.specs.Prelude.{Bool, true, false, ◌&&◌, Option, None, Some}
use Rattle.board.specs.declared.piece.Colour.{Colour}
use Rattle.board.specs.declared.piece.Colour.TheVariants.{White, Black}
use Rattle.board.specs.declared.piece.Kind.{Kind}
use Rattle.board.specs.declared.piece.Kind.TheVariants.{Pawn, Knight, Bishop, Rook, Queen, King}
use Rattle.board.specs.declared.piece.Piece.{Piece}

-- the side against this one
abbrev pub other : Colour → Colour
other White = Black
other Black = White

-- these are one colour
abbrev pub same_colour : Colour → Colour → Bool
same_colour White White = true
same_colour Black Black = true
same_colour White Black = false
same_colour Black White = false

-- these are one kind
abbrev pub same_kind : Kind → Kind → Bool
same_kind Pawn Pawn = true
same_kind Knight Knight = true
same_kind Bishop Bishop = true
same_kind Rook Rook = true
same_kind Queen Queen = true
same_kind King King = true
same_kind _ _ = false

-- a piece of this colour and kind stands in the cell
abbrev pub is_piece : Colour → Kind → Option Piece → Bool
is_piece c k None = false
is_piece c k (Some piece) = same_colour piece.colour c && same_kind piece.kind k
