-- How a game stands by the position alone.
use Rattle.std.specs.Prelude.{if◌then◌else◌}
use Rattle.board.specs.declared.parts.Parts.{Parts}
use Rattle.move_rules.specs.declared.standing.State.{State}
use Rattle.move_rules.specs.declared.standing.State.TheVariants.{Going, Mate, Stalemate}
use Rattle.move_rules.specs.Legal.{in_check}
use Rattle.move_rules.specs.Lists.{has_legal_move}

-- it goes on while there is a legal move; without one it is checkmate in check, and stalemate otherwise
abbrev pub state_of : Parts → State
state_of p = if has_legal_move p then Going else if in_check p then Mate else Stalemate
