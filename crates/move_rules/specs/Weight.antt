-- A weight of the board, to which each officer adds 1, and each pawn 1 and one more for each rank that it has still to go. No
-- legal move makes it greater.
use Rattle.std.specs.Prelude.{ℕ, ◌+◌, ◌-◌, List, [], ◌∷◌, Option, None, Some}
use Rattle.board.specs.declared.piece.Colour.{Colour}
use Rattle.board.specs.declared.piece.Colour.TheVariants.{White, Black}
use Rattle.board.specs.declared.piece.Kind.{Kind}
use Rattle.board.specs.declared.piece.Kind.TheVariants.{Pawn, Knight, Bishop, Rook, Queen, King}
use Rattle.board.specs.declared.piece.Piece.{Piece}
use Rattle.board.specs.declared.parts.Parts.{Parts}
use Rattle.board.specs.Square.{rank_of}

-- what a piece weighs, a pawn the more the further it has to go
abbrev pub weight_as : Kind → Colour → ℕ → ℕ
weight_as Pawn White s = 8 - rank_of s
weight_as Pawn Black s = rank_of s + 1
weight_as Knight c s = 1
weight_as Bishop c s = 1
weight_as Rook c s = 1
weight_as Queen c s = 1
weight_as King c s = 1

-- what stands in a cell weighs this
abbrev pub weight : ℕ → Option Piece → ℕ
weight s None = 0
weight s (Some piece) = weight_as piece.kind piece.colour s

-- what stands on the squares from s on weighs this together
abbrev pub weigh : ℕ → List (Option Piece) → ℕ
weigh s [] = 0
weigh s (x ∷ xs) = weight s x + weigh (s + 1) xs

-- the weight of a position's board
abbrev pub weight_of : Parts → ℕ
weight_of p = weigh 0 p.cells
