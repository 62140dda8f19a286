use Rattle.ranking.proofs.Before.{transitive}
use Rattle.ranking.proofs.Counted.{none_before_itself, before_is_total}
use Rattle.ranking.proofs.laws.lines_are_ordered.Goals as goal

pub returns-clause-strict : goal.returns-clause-strict
returns-clause-strict c = none_before_itself

pub returns-clause-transitive : goal.returns-clause-transitive
returns-clause-transitive c = transitive

pub returns-clause-total : goal.returns-clause-total
returns-clause-total c = before_is_total
