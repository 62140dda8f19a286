use Rattle.std.proofs.Common.{ap, ◌∙◌}
use Rattle.arena_history.specs.Snapshots.{last_opponent, balance, alone, last_wave}
use Rattle.arena_history.specs.Waves.{history}
use Rattle.arena_history.proofs.Counts.{last_opponent-after, balance-after, alone-after, last_wave-after}
use Rattle.arena_history.proofs.Histories.{IsWhole-history, history-push}
use Rattle.arena_history.proofs.laws.candidates_with_one_more.Goals as goal

pub returns-clause-last : goal.returns-clause-last
returns-clause-last c = λ s es e p. ap (λ h. last_opponent h p) (history-push s es e) ∙ last_opponent-after s (history s es) e p

pub returns-clause-balance : goal.returns-clause-balance
returns-clause-balance c = λ s es e p. ap (λ h. balance h p) (history-push s es e) ∙ balance-after s (history s es) e p

pub returns-clause-alone : goal.returns-clause-alone
returns-clause-alone c = λ s es e p. ap (λ h. alone h p) (history-push s es e) ∙ alone-after s (history s es) e p (IsWhole-history s es)

pub returns-clause-wave : goal.returns-clause-wave
returns-clause-wave c = λ s es e. ap (λ h. last_wave h) (history-push s es e) ∙ last_wave-after s (history s es) e
