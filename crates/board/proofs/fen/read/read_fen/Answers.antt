use Rattle.board.proofs.OneText.{read_back}
use Rattle.board.proofs.fen.read.read_fen.Goals as goal

pub returns-clause-read : goal.returns-clause-read
returns-clause-read c = λ p good e. read_back c.args.bytes.now c.parse.result c.parse.ensures p good e
