-- When two positions are the same: the same player has the move, the same pieces stand on the same squares, and the same
-- castlings and the same en passant square are left. The counts do not matter.
use Rattle.std.specs.Prelude.{ℕ, ◌≡◌, ◌==◌, Bool, true, false, ◌&&◌, not, Option, None, Some, List}
use Rattle.std.specs.Cmp.Lexicographic.{pointwise}
use Rattle.board.specs.declared.piece.Piece.{Piece}
use Rattle.board.specs.declared.parts.Parts.{Parts}
use Rattle.board.specs.declared.parts.Rights.{Rights}
use Rattle.board.specs.Piece.{same_colour, same_kind}

-- the same piece in both cells, or none in either
abbrev pub same_cell : Option Piece → Option Piece → Bool
same_cell None None = true
same_cell None (Some y) = false
same_cell (Some x) None = false
same_cell (Some x) (Some y) = same_colour x.colour y.colour && same_kind x.kind y.kind

-- both hold or neither does
abbrev pub same_bool : Bool → Bool → Bool
same_bool true b = b
same_bool false b = not b

-- the same castlings are left
abbrev pub same_rights : Rights → Rights → Bool
same_rights a b =
    same_bool a.white_short b.white_short
    && same_bool a.white_long b.white_long
    && same_bool a.black_short b.black_short
    && same_bool a.black_long b.black_long

-- the same en passant square, or none
abbrev pub same_ep : Option ℕ → Option ℕ → Bool
same_ep None None = true
same_ep None (Some y) = false
same_ep (Some x) None = false
same_ep (Some x) (Some y) = x == y

-- the same pieces on the same squares
unfoldable pub same_board : List (Option Piece) → List (Option Piece) → Bool
same_board xs ys = pointwise same_cell xs ys

-- the same position, as a test
unfoldable pub same : Parts → Parts → Bool
same a b = same_board a.cells b.cells && same_colour a.turn b.turn && same_rights a.rights b.rights && same_ep a.ep b.ep

-- the same position, as a fact
pub record IsSame (a b : Parts) : Type 0 where
  pub cells : a.cells ≡ b.cells
  pub turn : a.turn ≡ b.turn
  pub rights : a.rights ≡ b.rights
  pub ep : a.ep ≡ b.ep
