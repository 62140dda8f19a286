use Rattle.director.proofs.Turning.{plan_of_snapshot}
use Rattle.director.proofs.starting.start_wave.Goals as goal

pub commit-requires-clause-plan : goal.commit-requires-clause-plan
commit-requires-clause-plan g c = plan_of_snapshot c.plans_of_entries.ensures.own c.args.lobby.now.fixed c.args.pass.now.seen c.args.snap.now c.requires.taken c.in-Ok.plan c.in-Ok.ensures.n c.in-Ok.ensures.pairs c.in-Ok.ensures.alone
