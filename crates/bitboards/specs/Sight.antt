-- What a piece sees along the lines through its square, and what the kings of a side see.
use Rattle.std.specs.Prelude.{ℕ, Bool, ◌&&◌, List, Option}
use Rattle.std.specs.List.{list_any, range_with_len}
use Rattle.board.specs.declared.piece.Colour.{Colour}
use Rattle.board.specs.declared.piece.Kind.TheVariants.{King}
use Rattle.board.specs.declared.piece.Piece.{Piece}
use Rattle.board.specs.Piece.{is_piece}
use Rattle.board.specs.Attack.{piece_on, on_line, is_clear}

-- another square of a file, a rank or a diagonal, with no piece between
abbrev pub sees : List (Option Piece) → ℕ → ℕ → Bool
sees cells s t = on_line s t && is_clear cells s t

-- a king of this colour sees the square
unfoldable pub seen_by_king : List (Option Piece) → Colour → ℕ → Bool
seen_by_king cells c t = list_any (λ s. is_piece c King (piece_on cells s) && sees cells s t) (range_with_len 0 64)
