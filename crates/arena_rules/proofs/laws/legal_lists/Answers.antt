use Rattle.std.specs.Prelude.{◌≡◌, true}
use Rattle.arena_rules.proofs.Legality.{legal_nothing, legal_push, legal_from_push, legal_take, legal_induction}
use Rattle.arena_rules.proofs.laws.legal_lists.Goals as goal

pub returns-clause-nothing : goal.returns-clause-nothing
returns-clause-nothing c = legal_nothing

pub returns-clause-one_more : goal.returns-clause-one_more
returns-clause-one_more c = λ s es e. (legal_from_push s es e, λ both. legal_push s es e both.0 both.1)

pub returns-clause-beginnings : goal.returns-clause-beginnings
returns-clause-beginnings c = legal_take

pub returns-clause-reached : goal.returns-clause-reached
returns-clause-reached c = λ s holds start step es legal. legal_induction s (λ l. holds l ≡ true) start step es legal
