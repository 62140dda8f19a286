-- How what stands on the 64 squares is kept in four sets of squares: three tell the kind, and one the black pieces.
use Rattle.std.specs.Prelude.{ℕ, ◌≡◌, Bool, true, false, List, Option, None, Some, map}
use Rattle.std.specs.List.{range_with_len}
use Rattle.board.specs.declared.piece.Colour.{Colour}
use Rattle.board.specs.declared.piece.Colour.TheVariants.{White, Black}
use Rattle.board.specs.declared.piece.Kind.{Kind}
use Rattle.board.specs.declared.piece.Kind.TheVariants.{Pawn, Knight, Bishop, Rook, Queen, King}
use Rattle.board.specs.declared.piece.Piece.{Piece}
use Rattle.board.specs.Sets.{has, set_of}

-- it goes by single steps or jumps
abbrev pub kind_steps : Kind → Bool
kind_steps Pawn = true
kind_steps Knight = true
kind_steps Bishop = false
kind_steps Rook = false
kind_steps Queen = false
kind_steps King = true

-- it goes along diagonals, or is the king
abbrev pub kind_slants : Kind → Bool
kind_slants Pawn = false
kind_slants Knight = false
kind_slants Bishop = true
kind_slants Rook = false
kind_slants Queen = true
kind_slants King = true

-- it goes along files and ranks, or is a knight
abbrev pub kind_runs : Kind → Bool
kind_runs Pawn = false
kind_runs Knight = true
kind_runs Bishop = false
kind_runs Rook = true
kind_runs Queen = true
kind_runs King = false

-- it is Black's
abbrev pub colour_is_black : Colour → Bool
colour_is_black White = false
colour_is_black Black = true

-- the same of what stands in a cell; of an empty cell nothing of it holds
abbrev pub cell_steps : Option Piece → Bool
cell_steps None = false
cell_steps (Some piece) = kind_steps piece.kind

abbrev pub cell_slants : Option Piece → Bool
cell_slants None = false
cell_slants (Some piece) = kind_slants piece.kind

abbrev pub cell_runs : Option Piece → Bool
cell_runs None = false
cell_runs (Some piece) = kind_runs piece.kind

abbrev pub cell_is_black : Option Piece → Bool
cell_is_black None = false
cell_is_black (Some piece) = colour_is_black piece.colour

-- Black's or White's
abbrev pub colour_in : Bool → Colour
colour_in true = Black
colour_in false = White

-- the kind of what steps, slants and runs, or none
abbrev pub kind_in : Bool → Bool → Bool → Option Kind
kind_in false false false = None
kind_in true false false = Some Pawn
kind_in true false true = Some Knight
kind_in false true false = Some Bishop
kind_in false false true = Some Rook
kind_in false true true = Some Queen
kind_in true true b = Some King

-- a piece of this colour, if there is a kind
abbrev pub coloured : Colour → Option Kind → Option Piece
coloured c None = None
coloured c (Some k) = Some (record { colour = c; kind = k })

-- what stands in a cell of which the four tests are told
abbrev pub cell_in : Bool → Bool → Bool → Bool → Option Piece
cell_in a b c black = coloured (colour_in black) (kind_in a b c)

-- the cells that four sets tell
unfoldable pub cells_in : ℕ → ℕ → ℕ → ℕ → List (Option Piece)
cells_in a b c d = map (λ s. cell_in (has a s) (has b s) (has c s) (has d s)) (range_with_len 0 64)

-- the four sets tell 64 cells as those cells would be kept
pub record IsKept (a b c d : ℕ) (cells : List (Option Piece)) : Type 0 where
  pub steps : a ≡ set_of cell_steps cells
  pub slants : b ≡ set_of cell_slants cells
  pub runs : c ≡ set_of cell_runs cells
  pub black : d ≡ set_of cell_is_black cells
