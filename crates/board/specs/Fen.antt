-- How a position is written as FEN: six fields with one space between them.
use Rattle.std.specs.Prelude.{ℕ, ◌+◌, ◌-◌, ◌*◌, ◌==◌, zero, suc, List, [], ◌∷◌, ◌++◌, Option, None, Some, slice_range, if◌then◌else◌, codes}
use Rattle.std.specs.List.{join_with_byte}
use Rattle.std.specs.Fmt.{decimal}
use Rattle.board.specs.declared.piece.Colour.{Colour}
use Rattle.board.specs.declared.piece.Colour.TheVariants.{White, Black}
use Rattle.board.specs.declared.piece.Kind.{Kind}
use Rattle.board.specs.declared.piece.Piece.{Piece}
use Rattle.board.specs.declared.parts.Parts.{Parts}
use Rattle.board.specs.declared.parts.Rights.{Rights}
use Rattle.board.specs.Words.{kind_letter, square_word}

-- the letter of a piece, a capital for White
abbrev pub piece_letter : Colour → Kind → ℕ
piece_letter White k = kind_letter k - 32
piece_letter Black k = kind_letter k

-- a run of empty squares is one digit, and no run is not written
abbrev pub run : ℕ → List ℕ
run n = if n == 0 then [] else decimal n

-- the squares of a rank from left to right, behind so many empty ones
abbrev pub rank_text : ℕ → List (Option Piece) → List ℕ
rank_text n [] = run n
rank_text n (None ∷ cells) = rank_text (n + 1) cells
rank_text n (Some piece ∷ cells) = run n ++ piece_letter piece.colour piece.kind ∷ rank_text 0 cells

-- the squares of a rank
abbrev pub rank_cells : List (Option Piece) → ℕ → List (Option Piece)
rank_cells cells rank = slice_range cells (8 * rank) (8 * rank + 8)

-- the ranks from this one down to the first, with `/` between them
unfoldable pub ranks_text : List (Option Piece) → ℕ → List ℕ
ranks_text cells zero = rank_text 0 (rank_cells cells 0)
ranks_text cells (suc rank) = rank_text 0 (rank_cells cells (suc rank)) ++ codes "/" ++ ranks_text cells rank

-- the ranks from the eighth down
abbrev pub board_text : List (Option Piece) → List ℕ
board_text cells = ranks_text cells 7

-- who is to move
abbrev pub turn_text : Colour → List ℕ
turn_text White = codes "w"
turn_text Black = codes "b"

-- the letters of the castlings that are left
abbrev pub castlings : Rights → List ℕ
castlings r =
    (if r.white_short then codes "K" else [])
    ++ (if r.white_long then codes "Q" else [])
    ++ (if r.black_short then codes "k" else [])
    ++ (if r.black_long then codes "q" else [])

-- a text, or a dash where there is none
abbrev pub or_dash : List ℕ → List ℕ
or_dash [] = codes "-"
or_dash (b ∷ bs) = b ∷ bs

-- the castlings that are left, or a dash
abbrev pub rights_text : Rights → List ℕ
rights_text r = or_dash (castlings r)

-- the en passant square, or a dash
abbrev pub ep_text : Option ℕ → List ℕ
ep_text None = codes "-"
ep_text (Some s) = square_word s

-- the six fields
abbrev pub fields_of : Parts → List (List ℕ)
fields_of p =
    board_text p.cells
    ∷ turn_text p.turn
    ∷ rights_text p.rights
    ∷ ep_text p.ep
    ∷ decimal p.half
    ∷ decimal p.number
    ∷ []

-- the fields, with a space, which is byte 32, between them
abbrev pub fen_of : Parts → List ℕ
fen_of p = join_with_byte 32 (fields_of p)
