use Rattle.board.proofs.Squares.{king_attacked-means}
use Rattle.board.proofs.parts.Parts.is_king_attacked.Goals as goal

pub returns-clause-means : goal.returns-clause-means
returns-clause-means c = rw c.is_king_attacked.ensures (king_attacked-means c.args.self.now.cells c.args.colour)
