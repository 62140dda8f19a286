use Rattle.std.proofs.Common.{sym, ap, ◌∙◌}
use Rattle.arena_history.specs.Stands.{idle}
use Rattle.arena_history.proofs.Histories.{first-history}
use Rattle.arena_history.proofs.Idle.{since_is_least, since-push, still_means, still_from, still_since}
use Rattle.arena_history.proofs.laws.idle_players.Goals as goal

pub returns-clause-least : goal.returns-clause-least
returns-clause-least c = since_is_least

pub returns-clause-one_more : goal.returns-clause-one_more
returns-clause-one_more c = since-push

pub returns-clause-throughout : goal.returns-clause-throughout
returns-clause-throughout c = λ s es n p. ((λ on k low high. ap (λ h. idle s h p) (sym (first-history s es k)) ∙ still_means s es n p on k low high), λ each. still_from s es n p (λ k low high. ap (λ h. idle s h p) (first-history s es k) ∙ each k low high))

pub returns-clause-by_number : goal.returns-clause-by_number
returns-clause-by_number c = still_since
