use Rattle.move_rules.proofs.tests.+lines_of_play.Given as goal

abbrev pub decreases-lines_of_play : goal.decreases-lines_of_play
decreases-lines_of_play l = l.plies
