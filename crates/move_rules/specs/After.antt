-- The position after a move.
use Rattle.std.specs.Prelude.{ℕ, ◌+◌, ◌*◌, ◌==◌, nat_lt, min, Bool, ◌&&◌, ◌||◌, not, if◌then◌else◌, List, Option, None, Some, slice_set}
use Rattle.board.specs.declared.piece.Colour.{Colour}
use Rattle.board.specs.declared.piece.Colour.TheVariants.{White, Black}
use Rattle.board.specs.declared.piece.Kind.{Kind}
use Rattle.board.specs.declared.piece.Kind.TheVariants.{Pawn, King}
use Rattle.board.specs.declared.piece.Piece.{Piece}
use Rattle.board.specs.declared.parts.Parts.{Parts}
use Rattle.board.specs.declared.parts.Rights.{Rights}
use Rattle.board.specs.Square.{file_of, rank_of, apart, distance}
use Rattle.board.specs.Piece.{other}
use Rattle.board.specs.Attack.{piece_on}
use Rattle.board.specs.Position.{home}
use Rattle.board.specs.Moves.{MoveWord}
use Rattle.board.specs.Cells.{is_kind, is_empty}
use Rattle.board.specs.Pawns.{halfway, is_ep}

-- a pawn moves
abbrev pub is_pawn_move : Parts → MoveWord → Bool
is_pawn_move p m = is_kind Pawn (piece_on p.cells m.from)

-- a quiet move: no pawn moves, and nothing is captured
abbrev pub is_quiet : Parts → MoveWord → Bool
is_quiet p m = not (is_pawn_move p m) && is_empty p.cells m.to

-- a pawn goes to the en passant square from another file, and so captures the pawn that has just passed by
abbrev pub is_en_passant : Parts → MoveWord → Bool
is_en_passant p m = is_pawn_move p m && is_ep m.to p.ep && not (file_of m.from == file_of m.to)

-- castling is a king's move of two squares
abbrev pub is_castling : Parts → MoveWord → Bool
is_castling p m = is_kind King (piece_on p.cells m.from) && (distance m.from m.to == 2)

-- the piece that a pawn has become, or what stood in the cell
abbrev pub promoted_cell : Colour → Option Piece → Option Kind → Option Piece
promoted_cell c cell None = cell
promoted_cell c cell (Some k) = Some (record { colour = c; kind = k })

-- what comes to stand on the square of arrival
abbrev pub arriving_cell : Parts → MoveWord → Option Piece
arriving_cell p m = promoted_cell p.turn (piece_on p.cells m.from) m.promo

-- the piece has left its square and stands on the other, in place of what was there
abbrev pub moved_cells : Parts → MoveWord → List (Option Piece)
moved_cells p m = slice_set (slice_set p.cells m.from None) m.to (arriving_cell p m)

-- where a pawn stands that is captured en passant: on the rank that the capturing pawn leaves and the file to which it goes
abbrev pub passed_pawn : MoveWord → ℕ
passed_pawn m = 8 * rank_of m.from + file_of m.to

-- the rook has gone from a to b
abbrev pub rook_moved_cells : List (Option Piece) → ℕ → ℕ → List (Option Piece)
rook_moved_cells cells a b = slice_set (slice_set cells a None) b (piece_on cells a)

-- in castling the rook towards which the king goes comes to his other side
abbrev pub castled_cells : Parts → MoveWord → List (Option Piece)
castled_cells p m =
    let h = home p.turn in
    if nat_lt m.from m.to then rook_moved_cells (moved_cells p m) (h + 7) (h + 5)
    else rook_moved_cells (moved_cells p m) h (h + 3)

-- the board: the piece moved, with a pawn that is captured en passant taken off, and with the rook of a castling moved too
unfoldable pub cells_after : Parts → MoveWord → List (Option Piece)
cells_after p m =
    if is_en_passant p m then slice_set (moved_cells p m) (passed_pawn m) None
    else if is_castling p m then castled_cells p m
    else moved_cells p m

-- the move leaves or reaches the square
abbrev pub touches : MoveWord → ℕ → Bool
touches m s = (m.from == s) || (m.to == s)

-- a castling stays left until its king or its rook moves or the rook is captured, which is a move from or to their squares
abbrev pub right_after : MoveWord → Colour → ℕ → Bool → Bool
right_after m c file right = right && not (touches m (home c + 4)) && not (touches m (home c + file))

-- the castlings that are left
unfoldable pub rights_after : Parts → MoveWord → Rights
rights_after p m = record {
  white_short = right_after m White 7 p.rights.white_short;
  white_long = right_after m White 0 p.rights.white_long;
  black_short = right_after m Black 7 p.rights.black_short;
  black_long = right_after m Black 0 p.rights.black_long;
}

-- the square that a pawn has crossed by going two ranks, and none after any other move
unfoldable pub ep_after : Parts → MoveWord → Option ℕ
ep_after p m =
    if is_pawn_move p m && (apart (rank_of m.from) (rank_of m.to) == 2) then Some (halfway m.from m.to) else None

-- one more, up to 65,535, where a count stands still
abbrev pub next_count : ℕ → ℕ
next_count n = min 65535 (n + 1)

-- the plies since a pawn moved or a piece was captured: none after such a move, and one more after any other
unfoldable pub half_after : Parts → MoveWord → ℕ
half_after p m = if is_pawn_move p m || not (is_empty p.cells m.to) then 0 else next_count p.half

-- the number of the move rises when Black has moved
abbrev pub number_after : Colour → ℕ → ℕ
number_after White n = n
number_after Black n = next_count n

-- the other side is to move
abbrev pub after : Parts → MoveWord → Parts
after p m = record {
  cells = cells_after p m;
  turn = other p.turn;
  rights = rights_after p m;
  ep = ep_after p m;
  half = half_after p m;
  number = number_after p.turn p.number;
}
