use Rattle.board.proofs.Array.{start_is_position}
use Rattle.board.proofs.position.Position.start.Goals as goal

pub invariant_of-result : goal.invariant_of-result
invariant_of-result c = rw (c.of.ensures, c.start_cells.ensures) start_is_position
