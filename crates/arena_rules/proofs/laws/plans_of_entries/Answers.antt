use Rattle.arena_rules.proofs.Plans.{plan_of_all, plan_known, plan_stays, plan_filtered}
use Rattle.arena_rules.proofs.laws.plans_of_entries.Goals as goal

pub returns-clause-own : goal.returns-clause-own
returns-clause-own c = plan_of_all c.laws_of_histories.ensures

pub returns-clause-within : goal.returns-clause-within
returns-clause-within c = plan_known c.laws_of_histories.ensures

pub returns-clause-stays : goal.returns-clause-stays
returns-clause-stays c = plan_stays c.laws_of_histories.ensures

pub returns-clause-starts : goal.returns-clause-starts
returns-clause-starts c = plan_filtered c.laws_of_histories.ensures
