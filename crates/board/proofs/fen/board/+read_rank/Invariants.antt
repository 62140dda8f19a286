use Rattle.std.proofs.Common.{length}
use Rattle.board.proofs.fen.board.+read_rank.Given as goal

abbrev pub decreases-read_rank : goal.decreases-read_rank
decreases-read_rank l = length l.text.now
