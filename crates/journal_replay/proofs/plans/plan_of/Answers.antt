use Rattle.journal_replay.proofs.Planned.{plan_is, rows_are}
use Rattle.journal_replay.proofs.plans.plan_of.Goals as goal

pub plan-requires-clause-rows : goal.plan-requires-clause-rows
plan-requires-clause-rows g c = λ κs outlives. rows_are c.args.arena.now c.in_ok-snapshot.snapshot _ c.in_ok-snapshot.ensures (c.tables_of_legal_lists.ensures.rankings c.args.arena.now.setup c.args.arena.now.entries c.shows_legal.ensures.good c.shows_legal.ensures.legal)

pub returns : goal.returns
returns g c = plan_is c.args.arena.now c.in_ok-snapshot.snapshot _ c.in_ok-snapshot.ensures c.plan.result c.plan.ensures.n c.plan.ensures.pairs c.plan.ensures.alone
