use Rattle.team_battle.proofs.TeamOrder.{none_above_itself, above_is_transitive, above_is_total}
use Rattle.team_battle.proofs.laws.teams_are_ordered.Goals as goal

pub returns-clause-strict : goal.returns-clause-strict
returns-clause-strict c = none_above_itself

pub returns-clause-transitive : goal.returns-clause-transitive
returns-clause-transitive c = above_is_transitive

pub returns-clause-total : goal.returns-clause-total
returns-clause-total c = above_is_total
