-- What every position keeps.
use Rattle.std.specs.Prelude.{ℕ, ◌≡◌, ◌≤◌, ◌+◌, ◌-◌, ◌==◌, Bool, true, false, ◌&&◌, ◌||◌, not, List, Option, None, Some, is_none, count_by, length, IsTrue}
use Rattle.std.specs.List.{list_all, range_with_len}
use Rattle.board.specs.declared.piece.Colour.{Colour}
use Rattle.board.specs.declared.piece.Colour.TheVariants.{White, Black}
use Rattle.board.specs.declared.piece.Kind.TheVariants.{Pawn, Rook, King}
use Rattle.board.specs.declared.piece.Piece.{Piece}
use Rattle.board.specs.declared.parts.Parts.{Parts}
use Rattle.board.specs.declared.parts.Rights.{Rights}
use Rattle.board.specs.declared.position.Status.{Status}
use Rattle.board.specs.Square.{rank_of}
use Rattle.board.specs.Piece.{other, is_piece}
use Rattle.board.specs.Attack.{piece_on, king_attacked}

-- the a-file square of a colour's first rank
abbrev pub home : Colour → ℕ
home White = 0
home Black = 56

-- no pawn stands on the square
abbrev pub is_pawnless : List (Option Piece) → ℕ → Bool
is_pawnless cells s = not (is_piece White Pawn (piece_on cells s)) && not (is_piece Black Pawn (piece_on cells s))

-- 64 squares, one king on each side, and no pawn on the first or last rank
pub record IsBoard (cells : List (Option Piece)) : Type 0 where
  pub squares : length cells ≡ 64
  pub white_king : count_by (is_piece White King) cells ≡ 1
  pub black_king : count_by (is_piece Black King) cells ≡ 1
  pub first_rank : IsTrue (list_all (is_pawnless cells) (range_with_len 0 8))
  pub last_rank : IsTrue (list_all (is_pawnless cells) (range_with_len 56 8))

-- a castling is not left, or its king and its rook stand at home, the rook on this file
abbrev pub right_holds : List (Option Piece) → Colour → ℕ → Bool → Bool
right_holds cells c file right =
    not right || (is_piece c King (piece_on cells (home c + 4)) && is_piece c Rook (piece_on cells (home c + file)))

-- king and rook stand at home for each castling that is left
pub record HoldsRights (cells : List (Option Piece)) (r : Rights) : Type 0 where
  pub white_short : IsTrue (right_holds cells White 7 r.white_short)
  pub white_long : IsTrue (right_holds cells White 0 r.white_long)
  pub black_short : IsTrue (right_holds cells Black 7 r.black_short)
  pub black_long : IsTrue (right_holds cells Black 0 r.black_long)

-- there is no en passant square, or an enemy pawn can just have crossed it: it lies on the sixth rank of the side to move,
-- it and the square behind it, where the pawn started, are empty, and the pawn stands in front of it
abbrev pub ep_holds : List (Option Piece) → Colour → Option ℕ → Bool
ep_holds cells turn None = true
ep_holds cells White (Some e) =
    (rank_of e == 5)
    && is_none (piece_on cells e)
    && is_none (piece_on cells (e + 8))
    && is_piece Black Pawn (piece_on cells (e - 8))
ep_holds cells Black (Some e) =
    (rank_of e == 2)
    && is_none (piece_on cells e)
    && is_none (piece_on cells (e - 8))
    && is_piece White Pawn (piece_on cells (e + 8))

-- a board that a game can have, the side that is not to move not in check, castlings and en passant square that can be
-- left, and two counts that end at 65,535, the moves counted from 1
pub record IsPosition (p : Parts) : Type 0 where
  pub board : IsBoard p.cells
  pub safe : king_attacked p.cells (other p.turn) ≡ false
  pub rights : HoldsRights p.cells p.rights
  pub ep : IsTrue (ep_holds p.cells p.turn p.ep)
  pub half_most : p.half ≤ 65535
  pub number_least : 1 ≤ p.number
  pub number_most : p.number ≤ 65535

-- the same position with no en passant square
abbrev pub without_ep : Parts → Parts
without_ep p = record p { ep = None }

-- the parts that a board and all else of a position make
abbrev pub parts_of : List (Option Piece) → Status → Parts
parts_of cells s = record { cells = cells; turn = s.turn; rights = s.rights; ep = s.ep; half = s.half; number = s.number }
