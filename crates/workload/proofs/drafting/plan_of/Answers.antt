use Rattle.workload.proofs.Planned.{is_whole, plan_is, rows_are}
use Rattle.workload.proofs.drafting.plan_of.Goals as goal

pub plan-requires-clause-rows : goal.plan-requires-clause-rows
plan-requires-clause-rows g c = λ κs outlives. rows_are c.args.arena.now c.in_ok-snapshot.snapshot _ c.in_ok-snapshot.ensures (c.tables_of_legal_lists.ensures.rankings c.args.arena.now.setup c.args.arena.now.entries c.shows_legal.ensures.good c.shows_legal.ensures.legal)

pub returns-clause-is : goal.returns-clause-is
returns-clause-is g c = plan_is c.args.arena.now c.in_ok-snapshot.snapshot _ c.in_ok-snapshot.ensures c.plans_of_entries.ensures.own c.plan.result c.plan.ensures.n c.plan.ensures.pairs c.plan.ensures.alone

pub returns-clause-whole : goal.returns-clause-whole
returns-clause-whole g c = is_whole c.args.arena.now c.in_ok-snapshot.snapshot _ c.in_ok-snapshot.ensures c.beginnings_are_histories.ensures.entries c.plan.result c.plan.ensures.n
