use Rattle.arena_history.specs.Stamps.{stamp_of}
use Rattle.arena_main.proofs.Plans.{answered_is_plan_of, is_ranking}
use Rattle.arena_main.proofs.tests.arena.evenings.planned.Goals as goal

pub plan-requires-clause-rows : goal.plan-requires-clause-rows
plan-requires-clause-rows g c _ _ =
    let was = c.args.arena.now in
    is_ranking c.tables_of_legal_lists.ensures.rankings was.setup was.entries (stamp_of was.entries 0) c.in_ok-idle.idle c.shows_legal.ensures.good c.shows_legal.ensures.legal c.in_ok-idle.ensures

pub returns : goal.returns
returns g c =
    let was = c.args.arena.now in
    answered_is_plan_of c.plans_of_entries.ensures.own was.setup was.entries (stamp_of was.entries 0) c.in_ok-idle.idle c.plan.result c.in_ok-idle.ensures c.plan.ensures.n c.plan.ensures.pairs c.plan.ensures.alone
