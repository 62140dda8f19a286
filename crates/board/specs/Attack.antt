-- Which squares a piece strikes. A piece strikes a square whatever stands there, a piece of its own side too.
use Rattle.std.specs.Prelude.{ℕ, ◌+◌, ◌/◌, ◌-◌, ◌*◌, ◌==◌, Bool, false, ◌&&◌, ◌||◌, not, List, Option, None, Some, is_none, slice_index_or}
use Rattle.std.specs.List.{list_all, list_any, range_with_len}
use Rattle.board.specs.declared.piece.Colour.{Colour}
use Rattle.board.specs.declared.piece.Colour.TheVariants.{White, Black}
use Rattle.board.specs.declared.piece.Kind.{Kind}
use Rattle.board.specs.declared.piece.Kind.TheVariants.{Pawn, Knight, Bishop, Rook, Queen, King}
use Rattle.board.specs.declared.piece.Piece.{Piece}
use Rattle.board.specs.Square.{file_of, rank_of, apart, distance}
use Rattle.board.specs.Piece.{other, same_colour, is_piece}

-- the piece that stands on a square, or none
abbrev pub piece_on : List (Option Piece) → ℕ → Option Piece
piece_on cells s = slice_index_or cells s None

-- two squares on one file or on one rank
abbrev pub straight : ℕ → ℕ → Bool
straight a b = not (a == b) && ((file_of a == file_of b) || (rank_of a == rank_of b))

-- two squares on one diagonal
abbrev pub diagonal : ℕ → ℕ → Bool
diagonal a b = not (a == b) && (apart (file_of a) (file_of b) == apart (rank_of a) (rank_of b))

-- two squares on one line: a file, a rank or a diagonal
abbrev pub on_line : ℕ → ℕ → Bool
on_line a b = straight a b || diagonal a b

-- the square after i of the n equal steps from a to b
abbrev pub on_the_way : ℕ → ℕ → ℕ → ℕ → ℕ
on_the_way a b n i = (a * (n - i) + b * i) / n

-- no piece stands between two squares of one line
unfoldable pub is_clear : List (Option Piece) → ℕ → ℕ → Bool
is_clear cells a b =
    let n = distance a b in
    list_all (λ i. is_none (piece_on cells (on_the_way a b n i))) (range_with_len 1 (n - 1))

-- one file and two ranks away, or two files and one rank
abbrev pub knight_step : ℕ → ℕ → Bool
knight_step a b =
    let across = apart (file_of a) (file_of b) in
    let up = apart (rank_of a) (rank_of b) in
    ((across == 1) && (up == 2)) || ((across == 2) && (up == 1))

-- any neighbouring square
abbrev pub king_step : ℕ → ℕ → Bool
king_step a b = distance a b == 1

-- one step diagonally forward, as this side's pawns see it
abbrev pub pawn_strike : Colour → ℕ → ℕ → Bool
pawn_strike White a b = (apart (file_of a) (file_of b) == 1) && (rank_of b == rank_of a + 1)
pawn_strike Black a b = (apart (file_of a) (file_of b) == 1) && (rank_of a == rank_of b + 1)

-- a piece of this kind and colour on a strikes b: rook, bishop and queen go along lines and do not jump
unfoldable pub strikes_as : List (Option Piece) → Kind → Colour → ℕ → ℕ → Bool
strikes_as cells Pawn colour a b = pawn_strike colour a b
strikes_as cells Knight colour a b = knight_step a b
strikes_as cells Bishop colour a b = diagonal a b && is_clear cells a b
strikes_as cells Rook colour a b = straight a b && is_clear cells a b
strikes_as cells Queen colour a b = on_line a b && is_clear cells a b
strikes_as cells King colour a b = king_step a b

-- what stands in a's cell has this colour and strikes b
abbrev pub cell_strikes : List (Option Piece) → Colour → ℕ → ℕ → Option Piece → Bool
cell_strikes cells by b a None = false
cell_strikes cells by b a (Some piece) = same_colour piece.colour by && strikes_as cells piece.kind piece.colour a b

-- a piece of this colour stands on a and strikes b
unfoldable pub strikes_from : List (Option Piece) → Colour → ℕ → ℕ → Bool
strikes_from cells by b a = cell_strikes cells by b a (piece_on cells a)

-- some piece of this colour strikes the square
unfoldable pub attacked : List (Option Piece) → ℕ → Colour → Bool
attacked cells s by = list_any (λ a. strikes_from cells by s a) (range_with_len 0 64)

-- a king of this colour stands on a square that the other side attacks
unfoldable pub king_attacked : List (Option Piece) → Colour → Bool
king_attacked cells c =
    list_any (λ s. is_piece c King (piece_on cells s) && attacked cells s (other c)) (range_with_len 0 64)
