-- Castling: king and rook have not moved, nothing stands between them, and the king starts, passes and ends on squares that
-- the other side does not attack.
use Rattle.std.specs.Prelude.{ℕ, ◌+◌, ◌==◌, Bool, ◌&&◌, ◌||◌, not, List, Option}
use Rattle.std.specs.List.{list_all, range_with_len}
use Rattle.board.specs.declared.piece.Colour.{Colour}
use Rattle.board.specs.declared.piece.Colour.TheVariants.{White, Black}
use Rattle.board.specs.declared.piece.Piece.{Piece}
use Rattle.board.specs.declared.parts.Parts.{Parts}
use Rattle.board.specs.declared.parts.Rights.{Rights}
use Rattle.board.specs.Piece.{other}
use Rattle.board.specs.Attack.{attacked}
use Rattle.board.specs.Position.{home}
use Rattle.board.specs.Cells.{is_empty}

-- this side's castling with the rook of the h-file is left
abbrev pub short_right : Colour → Rights → Bool
short_right White r = r.white_short
short_right Black r = r.black_short

-- this side's castling with the rook of the a-file is left
abbrev pub long_right : Colour → Rights → Bool
long_right White r = r.white_long
long_right Black r = r.black_long

-- the n squares from s on are empty
abbrev pub all_empty : List (Option Piece) → ℕ → ℕ → Bool
all_empty cells s n = list_all (is_empty cells) (range_with_len s n)

-- the other side attacks none of the n squares from s on
abbrev pub all_safe : List (Option Piece) → Colour → ℕ → ℕ → Bool
all_safe cells c s n = list_all (λ k. not (attacked cells k (other c))) (range_with_len s n)

-- the king goes from the e-file to the g-file: the two squares beside him are empty, and neither they nor his own are attacked
abbrev pub castles_short : Parts → ℕ → ℕ → Bool
castles_short p a b =
    let h = home p.turn in
    short_right p.turn p.rights
    && (a == h + 4)
    && (b == h + 6)
    && all_empty p.cells (h + 5) 2
    && all_safe p.cells p.turn (h + 4) 3

-- the king goes from the e-file to the c-file: the three squares beside him are empty, and neither the two that he goes over
-- nor his own are attacked
abbrev pub castles_long : Parts → ℕ → ℕ → Bool
castles_long p a b =
    let h = home p.turn in
    long_right p.turn p.rights
    && (a == h + 4)
    && (b == h + 2)
    && all_empty p.cells (h + 1) 3
    && all_safe p.cells p.turn (h + 2) 3

-- one of the two
abbrev pub castles : Parts → ℕ → ℕ → Bool
castles p a b = castles_short p a b || castles_long p a b
