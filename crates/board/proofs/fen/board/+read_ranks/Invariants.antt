use Rattle.board.proofs.fen.board.+read_ranks.Given as goal

abbrev pub decreases-read_ranks : goal.decreases-read_ranks
decreases-read_ranks l = l.rank
