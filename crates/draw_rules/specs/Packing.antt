-- How positions are kept: what stands on the squares in one list, and in another, in step, all the rest of a position as one
-- number of two bytes.
use Rattle.std.specs.Prelude.{ℕ, ◌+◌, ◌*◌, ◌/◌, ◌%◌, ◌==◌, zero, suc, Bool, List, Option, None, Some, map, if◌then◌else◌}
use Rattle.std.specs.List.{zip}
use Rattle.board.specs.declared.piece.Colour.{Colour}
use Rattle.board.specs.declared.piece.Piece.{Piece}
use Rattle.board.specs.declared.parts.Parts.{Parts}
use Rattle.board.specs.declared.parts.Rights.{Rights}
use Rattle.board.specs.Placement.{colour_is_black, colour_in}
use Rattle.draw_rules.specs.Appearance.{Appearance}

-- all of a position but the pieces on the squares and the two counts
pub record Beside : Type 0 where
  pub turn : Colour
  pub rights : Rights
  pub ep : Option ℕ

-- what a position has beside its pieces and counts
abbrev pub beside : Parts → Beside
beside p = record { turn = p.turn; rights = p.rights; ep = p.ep }

-- the pieces and the rest together
abbrev pub with_pieces : List (Option Piece) → Beside → Appearance
with_pieces cells b = record { cells = cells; turn = b.turn; rights = b.rights; ep = b.ep }

-- two lists in step
abbrev pub in_step : List (List (Option Piece)) → List Beside → List Appearance
in_step boards rest = map (λ t. with_pieces t.0 t.1) (zip boards rest)

-- a number with one binary digit more at its end
abbrev pub digit : Bool → ℕ → ℕ
digit b n = (if b then 1 else 0) + 2 * n

-- 0 for no square, or one more than the square
abbrev pub ep_number : Option ℕ → ℕ
ep_number None = 0
ep_number (Some s) = suc s

-- the number: a digit that says whether Black is to move, one for each castling, and the en passant square
unfoldable pub number_of : Beside → ℕ
number_of b =
    digit (colour_is_black b.turn)
    (digit b.rights.white_short
    (digit b.rights.white_long
    (digit b.rights.black_short
    (digit b.rights.black_long (ep_number b.ep)))))

-- its last binary digit is 1
abbrev pub is_odd : ℕ → Bool
is_odd n = n % 2 == 1

abbrev pub ep_in : ℕ → Option ℕ
ep_in zero = None
ep_in (suc s) = Some s

-- what a number tells
unfoldable pub beside_in : ℕ → Beside
beside_in n = record {
  turn = colour_in (is_odd n);
  rights = record {
    white_short = is_odd (n / 2);
    white_long = is_odd (n / 2 / 2);
    black_short = is_odd (n / 2 / 2 / 2);
    black_long = is_odd (n / 2 / 2 / 2 / 2);
  };
  ep = ep_in (n / 2 / 2 / 2 / 2 / 2);
}
