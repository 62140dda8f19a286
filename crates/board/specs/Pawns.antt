-- How a pawn goes: straight ahead to empty squares, and diagonally forward where it captures.
use Rattle.std.specs.Prelude.{ℕ, ◌+◌, ◌/◌, ◌==◌, Bool, false, ◌&&◌, ◌||◌, Option, None, Some}
use Rattle.board.specs.declared.piece.Colour.{Colour}
use Rattle.board.specs.declared.piece.Colour.TheVariants.{White, Black}
use Rattle.board.specs.declared.parts.Parts.{Parts}
use Rattle.board.specs.Square.{file_of, rank_of}
use Rattle.board.specs.Piece.{other}
use Rattle.board.specs.Attack.{piece_on, pawn_strike}
use Rattle.board.specs.Cells.{is_of, is_empty}

-- n ranks straight ahead, as this side's pawns see it
abbrev pub ahead : Colour → ℕ → ℕ → ℕ → Bool
ahead White n a b = (file_of a == file_of b) && (rank_of b == rank_of a + n)
ahead Black n a b = (file_of a == file_of b) && (rank_of a == rank_of b + n)

-- the rank on which a side's pawns start
abbrev pub pawn_rank : Colour → ℕ
pawn_rank White = 1
pawn_rank Black = 6

-- the rank on which a side's pawns become other pieces
abbrev pub last_rank : Colour → ℕ
last_rank White = 7
last_rank Black = 0

-- the square in the middle between two of one file
abbrev pub halfway : ℕ → ℕ → ℕ
halfway a b = (a + b) / 2

-- the square is the en passant square
abbrev pub is_ep : ℕ → Option ℕ → Bool
is_ep s None = false
is_ep s (Some e) = s == e

-- one square ahead, which is empty
abbrev pub single_step : Parts → ℕ → ℕ → Bool
single_step p a b = ahead p.turn 1 a b && is_empty p.cells b

-- two squares ahead from where it started, over an empty square to an empty one
abbrev pub double_step : Parts → ℕ → ℕ → Bool
double_step p a b =
    (rank_of a == pawn_rank p.turn) && ahead p.turn 2 a b && is_empty p.cells (halfway a b) && is_empty p.cells b

-- diagonally forward, where an enemy stands or where an enemy pawn has just passed by
abbrev pub pawn_capture : Parts → ℕ → ℕ → Bool
pawn_capture p a b = pawn_strike p.turn a b && (is_of (other p.turn) (piece_on p.cells b) || is_ep b p.ep)

-- one of these
abbrev pub pawn_reaches : Parts → ℕ → ℕ → Bool
pawn_reaches p a b = single_step p a b || double_step p a b || pawn_capture p a b
