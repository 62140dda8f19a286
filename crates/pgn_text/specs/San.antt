-- SAN, the short notation of the PGN standard: how a legal move is written in its position.
use Rattle.std.specs.Prelude.{ℕ, ◌+◌, ◌==◌, Bool, ◌&&◌, ◌||◌, not, nat_lt, if◌then◌else◌, List, [], ◌∷◌, ◌++◌, Option, None, Some, codes}
use Rattle.std.specs.List.{list_any}
use Rattle.board.specs.declared.piece.Colour.TheVariants.{White}
use Rattle.board.specs.declared.piece.Kind.{Kind}
use Rattle.board.specs.declared.piece.Kind.TheVariants.{Pawn}
use Rattle.board.specs.declared.piece.Piece.{Piece}
use Rattle.board.specs.declared.parts.Parts.{Parts}
use Rattle.board.specs.Square.{file_of, rank_of}
use Rattle.board.specs.Attack.{piece_on}
use Rattle.board.specs.Words.{square_word}
use Rattle.board.specs.Fen.{piece_letter}
use Rattle.board.specs.Moves.{MoveWord}
use Rattle.board.specs.Cells.{is_kind, is_empty}
use Rattle.move_rules.specs.After.{is_pawn_move, is_en_passant, is_castling, after}
use Rattle.move_rules.specs.Legal.{legal, in_check}
use Rattle.move_rules.specs.Lists.{squares, move_of, has_legal_move}

-- the capital letter of a kind: K, Q, R, B or N
abbrev pub letter : Kind → ℕ
letter k = piece_letter White k

-- the letter of a square's file: 97 is `a`
abbrev pub file_letter : ℕ → ℕ
file_letter s = 97 + file_of s

-- the digit of a square's rank: 49 is `1`
abbrev pub rank_digit : ℕ → ℕ
rank_digit s = 49 + rank_of s

-- a move captures: something stands where it goes, or a pawn captures in passing
abbrev pub captures : Parts → MoveWord → Bool
captures p m = not (is_empty p.cells m.to) || is_en_passant p m

-- `x` at a capture
abbrev pub cross : Parts → MoveWord → List ℕ
cross p m = if captures p m then codes "x" else []

-- the king castles with the rook of the h-file or of the a-file
abbrev pub castling_text : MoveWord → List ℕ
castling_text m = if nat_lt m.from m.to then codes "O-O" else codes "O-O-O"

-- the pawn's file and `x` before the target at a capture
abbrev pub pawn_start : Parts → MoveWord → List ℕ
pawn_start p m = if captures p m then file_letter m.from ∷ codes "x" else []

-- `=` and the letter of the new piece at a promotion
abbrev pub promotion_text : Option Kind → List ℕ
promotion_text None = []
promotion_text (Some k) = codes "=" ++ letter k ∷ []

-- a pawn's move: its file and `x` at a capture, the target, and what the pawn becomes
abbrev pub pawn_text : Parts → MoveWord → List ℕ
pawn_text p m = pawn_start p m ++ square_word m.to ++ promotion_text m.promo

-- another piece of this kind stands on the square and has a legal move to the same target
abbrev pub is_rival : Parts → MoveWord → Kind → ℕ → Bool
is_rival p m k a = not (a == m.from) && is_kind k (piece_on p.cells a) && legal p (move_of a m.to None)

-- such a piece stands on the mover's file
abbrev pub is_file_rival : Parts → MoveWord → Kind → ℕ → Bool
is_file_rival p m k a = (file_of a == file_of m.from) && is_rival p m k a

-- such a piece stands on the mover's rank
abbrev pub is_rank_rival : Parts → MoveWord → Kind → ℕ → Bool
is_rank_rival p m k a = (rank_of a == rank_of m.from) && is_rival p m k a

-- what tells the piece apart: nothing where no other one can go there, else its file where none of them starts on it, else
-- its rank where none of them starts on it, else both
unfoldable pub apart_text : Parts → MoveWord → Kind → List ℕ
apart_text p m k =
    if not (list_any (is_rival p m k) squares) then []
    else if not (list_any (is_file_rival p m k) squares) then file_letter m.from ∷ []
    else if not (list_any (is_rank_rival p m k) squares) then rank_digit m.from ∷ []
    else square_word m.from

-- another piece's move: its letter, what tells it apart, `x` at a capture, and the target
abbrev pub piece_text : Parts → MoveWord → Kind → List ℕ
piece_text p m k = letter k ∷ apart_text p m k ++ cross p m ++ square_word m.to

-- the kind of what stands in a cell; nothing counts as a pawn, but no legal move leaves an empty square
abbrev pub kind_at : Option Piece → Kind
kind_at None = Pawn
kind_at (Some piece) = piece.kind

-- a move without its sign: castling, or a pawn's move, or another piece's
unfoldable pub plain : Parts → MoveWord → List ℕ
plain p m =
    if is_castling p m then castling_text m
    else if is_pawn_move p m then pawn_text p m
    else piece_text p m (kind_at (piece_on p.cells m.from))

-- the sign of the position after a move: `#` where it is mate, which is a check and no legal move, and `+` at another check
unfoldable pub sign : Parts → List ℕ
sign q = if in_check q then (if has_legal_move q then codes "+" else codes "#") else []

-- the SAN of a legal move
unfoldable pub san : Parts → MoveWord → List ℕ
san p m = plain p m ++ sign (after p m)
