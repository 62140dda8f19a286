use Rattle.group_pairing.proofs.search.+drawn.Given as goal

abbrev pub decreases-drawn : goal.decreases-drawn
decreases-drawn l = l.set
