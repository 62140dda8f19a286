-- All moves that can be named, in their order, and the legal ones among them.
use Rattle.std.specs.Prelude.{ℕ, Bool, List, [], ◌∷◌, Option, None, Some, map, filter}
use Rattle.std.specs.List.{range_with_len, flat_map, list_any}
use Rattle.board.specs.declared.piece.Kind.{Kind}
use Rattle.board.specs.declared.piece.Kind.TheVariants.{Knight, Bishop, Rook, Queen}
use Rattle.board.specs.declared.parts.Parts.{Parts}
use Rattle.board.specs.Moves.{MoveWord, IsMove}
use Rattle.move_rules.specs.Legal.{legal}

-- it holds of some move
abbrev pub SomeMove : (MoveWord → Type 0) → Type 0
SomeMove P = (m : MoveWord) × IsMove m × P m

-- the squares, from a1 along each rank to h8
abbrev pub squares : List ℕ
squares = range_with_len 0 64

-- what a pawn may become: nothing, and then from the queen down
abbrev pub promos : List (Option Kind)
promos = None ∷ Some Queen ∷ Some Rook ∷ Some Bishop ∷ Some Knight ∷ []

-- the move from a to b with this promotion
abbrev pub move_of : ℕ → ℕ → Option Kind → MoveWord
move_of a b k = record { from = a; to = b; promo = k }

-- the moves from a to b
abbrev pub moves_between : ℕ → ℕ → List MoveWord
moves_between a b = map (move_of a b) promos

-- the moves from a
unfoldable pub moves_from : ℕ → List MoveWord
moves_from a = flat_map (moves_between a) squares

-- all moves: by the square that is left, then by the square that is reached, then by promotion
unfoldable pub all_moves : List MoveWord
all_moves = flat_map moves_from squares

-- the legal moves, in this order
abbrev pub legal_moves : Parts → List MoveWord
legal_moves p = filter (legal p) all_moves

-- there is a legal move
unfoldable pub has_legal_move : Parts → Bool
has_legal_move p = list_any (legal p) all_moves
