-- Quiet moves, with which no pawn moves and nothing is captured, and the last move that is none.
use Rattle.std.specs.Prelude.{ℕ, ◌-◌, List, length, take, drop}
use Rattle.std.specs.List.{suffix_len}
use Rattle.board.specs.declared.parts.Parts.{Parts}
use Rattle.board.specs.Moves.{MoveWord}
use Rattle.move_rules.specs.After.{is_quiet}
use Rattle.game_line.specs.Line.{Ply, plies, line}

-- the number of quiet moves at the end of the line
unfoldable pub quiet : List MoveWord → ℕ
quiet ms = suffix_len (λ (ply : Ply). is_quiet ply.before ply.move) (plies ms)

-- the positions before the last move that is not quiet, or none where each move is quiet
unfoldable pub positions_before : List MoveWord → List Parts
positions_before ms = take (length ms - quiet ms) (line ms)

-- the positions after that move, or the whole line where each move is quiet
unfoldable pub positions_since : List MoveWord → List Parts
positions_since ms = drop (length ms - quiet ms) (line ms)
