-- When a position is repeated, and how often the last one of a line has occurred.
use Rattle.std.specs.Prelude.{ℕ, ◌≡◌, Bool, List, Option, None, count_by, if◌then◌else◌}
use Rattle.board.specs.declared.parts.Parts.{Parts}
use Rattle.board.specs.Moves.{MoveWord}
use Rattle.board.specs.Same.{same}
use Rattle.move_rules.specs.EnPassant.{ep_legal, canonical}
use Rattle.game_line.specs.Line.{position_after, line}

-- the square on which an en passant capture is legal, or none
abbrev pub capture_square : Parts → Option ℕ
capture_square p = if ep_legal p then p.ep else None

-- the same position again: the same side to move, the same pieces on the same squares, the same castlings left, and a legal
-- en passant capture on the same square or none in either
pub record IsRepetition (p q : Parts) : Type 0 where
  pub turn : p.turn ≡ q.turn
  pub cells : p.cells ≡ q.cells
  pub rights : p.rights ≡ q.rights
  pub capture : capture_square p ≡ capture_square q

-- the same as a test, for which an en passant square is dropped first if no legal move uses it
unfoldable pub is_repetition : Parts → Parts → Bool
is_repetition p q = same (canonical p) (canonical q)

-- how many positions of the line repeat the last one, which counts too
unfoldable pub times : List MoveWord → ℕ
times ms = count_by (λ p. is_repetition p (position_after ms)) (line ms)
