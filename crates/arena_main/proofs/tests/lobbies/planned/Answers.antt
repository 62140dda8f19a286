use Rattle.arena_main.proofs.LobbyPlans.{answered_is_plan_of, is_ranking}
use Rattle.arena_main.proofs.tests.lobbies.planned.Goals as goal

pub plan-requires-clause-rows : goal.plan-requires-clause-rows
plan-requires-clause-rows g c κs within =
    is_ranking c.tables_of_legal_lists.ensures.rankings c.args.lobby.now c.args.pass.now c.snapshot.new.pass 1000 c.in_ok-snapshot.snapshot c.requires.good c.in_ok-snapshot.ensures.ready c.in_ok-snapshot.ensures.answer

pub returns-clause-plan : goal.returns-clause-plan
returns-clause-plan g c =
    answered_is_plan_of c.plans_of_entries.ensures.own c.args.lobby.now.fixed c.args.pass.now c.snapshot.new.pass 1000 c.in_ok-snapshot.snapshot c.plan.result c.in_ok-snapshot.ensures.answer c.plan.ensures.n c.plan.ensures.pairs c.plan.ensures.alone
