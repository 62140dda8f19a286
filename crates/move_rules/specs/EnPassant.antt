-- Whether the en passant square matters, and a position without one that does not.
use Rattle.std.specs.Prelude.{Bool, ◌&&◌, if◌then◌else◌}
use Rattle.std.specs.List.{list_any}
use Rattle.board.specs.declared.parts.Parts.{Parts}
use Rattle.board.specs.Moves.{MoveWord}
use Rattle.board.specs.Position.{without_ep}
use Rattle.move_rules.specs.After.{is_en_passant}
use Rattle.move_rules.specs.Legal.{legal}
use Rattle.move_rules.specs.Lists.{all_moves}

-- the move is a legal en passant capture
abbrev pub is_legal_en_passant : Parts → MoveWord → Bool
is_legal_en_passant p m = is_en_passant p m && legal p m

-- there is a legal en passant capture
unfoldable pub ep_legal : Parts → Bool
ep_legal p = list_any (is_legal_en_passant p) all_moves

-- the same position, with no en passant square where no legal move uses it
abbrev pub canonical : Parts → Parts
canonical p = if ep_legal p then p else without_ep p
