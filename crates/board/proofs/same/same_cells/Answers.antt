use Rattle.board.proofs.Equal.{same-means}
use Rattle.board.proofs.same.same_cells.Goals as goal

pub returns-clause-means : goal.returns-clause-means
returns-clause-means c = rw (c.are_same.ensures) (same-means c.args.a.now c.args.b.now)
