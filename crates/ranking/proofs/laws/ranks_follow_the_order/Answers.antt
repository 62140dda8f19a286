use Rattle.ranking.proofs.Counted.{ranks_are_in_order, rank_is_how_many_before}
use Rattle.ranking.proofs.laws.ranks_follow_the_order.Goals as goal

pub returns-clause-smaller : goal.returns-clause-smaller
returns-clause-smaller c = ranks_are_in_order

pub returns-clause-counted : goal.returns-clause-counted
returns-clause-counted c = rank_is_how_many_before
