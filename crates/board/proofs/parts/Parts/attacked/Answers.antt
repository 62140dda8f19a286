use Rattle.board.proofs.Squares.{attacked-means}
use Rattle.board.proofs.parts.Parts.attacked.Goals as goal

pub returns-clause-means : goal.returns-clause-means
returns-clause-means c = rw c.is_attacked.ensures (attacked-means c.args.self.now.cells c.args.s c.args.by)
