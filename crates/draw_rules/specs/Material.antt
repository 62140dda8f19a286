-- Which pieces are left, and where neither side can ever give mate.
use Rattle.std.specs.Prelude.{ℕ, ◌+◌, ◌%◌, ◌==◌, Bool, true, false, ◌&&◌, ◌||◌, not, List, Option, None, Some, count_by}
use Rattle.std.specs.List.{list_all, range_with_len}
use Rattle.board.specs.declared.piece.Colour.{Colour}
use Rattle.board.specs.declared.piece.Kind.TheVariants.{Knight, Bishop, King}
use Rattle.board.specs.declared.piece.Piece.{Piece}
use Rattle.board.specs.Square.{file_of, rank_of}
use Rattle.board.specs.Piece.{same_colour, same_kind}
use Rattle.board.specs.Attack.{piece_on}
use Rattle.board.specs.Same.{same_bool}

-- a king or nothing
abbrev pub is_king_or_empty : Option Piece → Bool
is_king_or_empty None = true
is_king_or_empty (Some piece) = same_kind piece.kind King

-- a bishop
abbrev pub is_bishop : Option Piece → Bool
is_bishop None = false
is_bishop (Some piece) = same_kind piece.kind Bishop

-- a knight or a bishop
abbrev pub is_minor : Option Piece → Bool
is_minor None = false
is_minor (Some piece) = same_kind piece.kind Knight || same_kind piece.kind Bishop

-- the square is a light one, as h1 is, and no dark one, as a1 is
abbrev pub is_light : ℕ → Bool
is_light s = (file_of s + rank_of s) % 2 == 1

-- there are only kings
unfoldable pub only_kings : List (Option Piece) → Bool
only_kings cells = list_all is_king_or_empty cells

-- there are kings and one knight or bishop, of either side
unfoldable pub kings_and_one_minor : List (Option Piece) → Bool
kings_and_one_minor cells =
    list_all (λ cell. is_king_or_empty cell || is_minor cell) cells && (count_by is_minor cells == 1)

-- on the square stands a king or nothing, or else a bishop and the square is light, or dark, as it is said
abbrev pub is_king_or_bishop_on : Bool → List (Option Piece) → ℕ → Bool
is_king_or_bishop_on light cells s =
    is_king_or_empty (piece_on cells s) || (is_bishop (piece_on cells s) && same_bool (is_light s) light)

-- there are kings, and bishops that all stand on light squares, or on dark ones, as it is said
unfoldable pub kings_and_bishops_on : Bool → List (Option Piece) → Bool
kings_and_bishops_on light cells = list_all (is_king_or_bishop_on light cells) (range_with_len 0 64)

-- beside the kings nothing is left, or one knight or one bishop, or bishops that share the colour of their squares
unfoldable pub dead_material : List (Option Piece) → Bool
dead_material cells =
    only_kings cells
    || kings_and_one_minor cells
    || kings_and_bishops_on true cells
    || kings_and_bishops_on false cells

-- the cell has no piece of this colour but a king
abbrev pub is_bare_of : Colour → Option Piece → Bool
is_bare_of c None = true
is_bare_of c (Some piece) = not (same_colour piece.colour c) || same_kind piece.kind King

-- of this colour nothing is left but the king
unfoldable pub bare_king : List (Option Piece) → Colour → Bool
bare_king cells c = list_all (is_bare_of c) cells
