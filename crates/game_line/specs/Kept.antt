-- What has to be kept of a line to know how often its last position has occurred.
use Rattle.std.specs.Prelude.{List, map}
use Rattle.board.specs.declared.parts.Parts.{Parts}
use Rattle.board.specs.Moves.{MoveWord}
use Rattle.move_rules.specs.EnPassant.{canonical}
use Rattle.draw_rules.specs.Appearance.{Appearance, appearance_of}
use Rattle.game_line.specs.Quiet.{positions_since}

-- a position as it is kept: without its counts, and with an en passant square only if a legal move uses it
unfoldable pub kept_as : Parts → Appearance
kept_as p = appearance_of (canonical p)

-- the positions from the last pawn move or capture on, as they are kept
unfoldable pub kept : List MoveWord → List Appearance
kept ms = map kept_as (positions_since ms)
