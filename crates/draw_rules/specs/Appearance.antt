-- Positions as they appear again: the pieces on the squares, the side to move, and the castlings and the en passant square
-- that are left. The two counts do not belong to it.
use Rattle.std.specs.Prelude.{ℕ, Bool, ◌&&◌, List, Option, None, Some, count_by}
use Rattle.std.specs.List.{last_or}
use Rattle.board.specs.declared.piece.Colour.{Colour}
use Rattle.board.specs.declared.piece.Piece.{Piece}
use Rattle.board.specs.declared.parts.Parts.{Parts}
use Rattle.board.specs.declared.parts.Rights.{Rights}
use Rattle.board.specs.Piece.{same_colour}
use Rattle.board.specs.Same.{same_board, same_rights, same_ep}

-- what a position has beside its counts
pub record Appearance : Type 0 where
  pub cells : List (Option Piece)
  pub turn : Colour
  pub rights : Rights
  pub ep : Option ℕ

-- a position without its counts
abbrev pub appearance_of : Parts → Appearance
appearance_of p = record { cells = p.cells; turn = p.turn; rights = p.rights; ep = p.ep }

-- one position appears twice
abbrev pub same_appearance : Appearance → Appearance → Bool
same_appearance a b =
    same_board a.cells b.cells && same_colour a.turn b.turn && same_rights a.rights b.rights && same_ep a.ep b.ep

-- how often the position stands in the list
abbrev pub times_in : List Appearance → Appearance → ℕ
times_in list a = count_by (λ b. same_appearance b a) list

-- the same of a position that there need not be
abbrev pub times_in_if_some : List Appearance → Option Appearance → ℕ
times_in_if_some list None = 0
times_in_if_some list (Some a) = times_in list a

-- how often the last position of the list stands in it
unfoldable pub occurrences : List Appearance → ℕ
occurrences list = times_in_if_some list (last_or None list)
