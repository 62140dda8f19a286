use Rattle.std.proofs.Common.{length}
use Rattle.workload.proofs.rounds.+act_in_turn.Given as goal

-- the words that are left
abbrev pub decreases-act_in_turn : goal.decreases-act_in_turn
decreases-act_in_turn l = length l.words.now
