use Rattle.arena_rules.proofs.Allowing.{allowed_if_not_refused, legal_if_not_refused, wave_allowed, legal_wave, commit_legal}
use Rattle.arena_rules.proofs.Ranges.{replied}
use Rattle.arena_rules.proofs.laws.what_is_allowed.Goals as goal

pub returns-clause-allowed : goal.returns-clause-allowed
returns-clause-allowed c = allowed_if_not_refused c.laws_of_histories.ensures

pub returns-clause-commands : goal.returns-clause-commands
returns-clause-commands c = legal_if_not_refused c.laws_of_histories.ensures

pub returns-clause-allowed_waves : goal.returns-clause-allowed_waves
returns-clause-allowed_waves c = wave_allowed c.laws_of_histories.ensures

pub returns-clause-waves : goal.returns-clause-waves
returns-clause-waves c = legal_wave c.laws_of_histories.ensures

pub returns-clause-commits : goal.returns-clause-commits
returns-clause-commits c = commit_legal c.laws_of_histories.ensures

pub returns-clause-replies : goal.returns-clause-replies
returns-clause-replies c = replied c.laws_of_histories.ensures
