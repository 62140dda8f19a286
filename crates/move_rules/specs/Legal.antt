-- When a move is legal.
use Rattle.std.specs.Prelude.{◌==◌, nat_lt, Bool, ◌&&◌, not, if◌then◌else◌, is_none, is_some}
use Rattle.board.specs.declared.parts.Parts.{Parts}
use Rattle.board.specs.Square.{rank_of}
use Rattle.board.specs.Attack.{king_attacked}
use Rattle.board.specs.Moves.{MoveWord, can_be_promo}
use Rattle.board.specs.Pawns.{last_rank}
use Rattle.board.specs.Reach.{reaches}
use Rattle.move_rules.specs.After.{is_pawn_move, after}

-- the king of the side to move is attacked
abbrev pub in_check : Parts → Bool
in_check p = king_attacked p.cells p.turn

-- a pawn comes to its last rank
abbrev pub is_promotion : Parts → MoveWord → Bool
is_promotion p m = is_pawn_move p m && (rank_of m.to == last_rank p.turn)

-- what the pawn becomes is named where one comes to its last rank, and nowhere else
unfoldable pub names_promo : Parts → MoveWord → Bool
names_promo p m = if is_promotion p m then is_some m.promo else is_none m.promo

-- after the move the king of the side that made it is not attacked
unfoldable pub leaves_king_safe : Parts → MoveWord → Bool
leaves_king_safe p m = not (king_attacked (after p m).cells p.turn)

-- the word names two squares of the board, and as a promotion nothing but a knight, a bishop, a rook or a queen
unfoldable pub is_move : MoveWord → Bool
is_move m = nat_lt m.from 64 && nat_lt m.to 64 && can_be_promo m.promo

-- the word is a move, a piece goes there by its way of moving, a promotion is named where there is one, and no king is left in check
unfoldable pub legal : Parts → MoveWord → Bool
legal p m = is_move m && reaches p m.from m.to && names_promo p m && leaves_king_safe p m
