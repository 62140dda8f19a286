use Rattle.board.proofs.fen.cut.+after_spaces.Given as goal

abbrev pub decreases-after_spaces : goal.decreases-after_spaces
decreases-after_spaces l = l.n
