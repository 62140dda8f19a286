use Rattle.arena_main.proofs.LobbyPlans.{stays_behind_commit}
use Rattle.arena_main.proofs.tests.lock.commits.commit.Goals as goal

pub returns-clause-plan : goal.returns-clause-plan
returns-clause-plan g c =
    stays_behind_commit c.plans_of_entries.ensures.stays c.args.lobby.now.fixed c.args.pass.now c.commit.new.pass c.args.now c.args.plan.now.n c.commit.result c.args.plan.now c.commit.ensures.answer c.requires.plan
