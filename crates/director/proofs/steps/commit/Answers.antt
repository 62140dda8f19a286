use Rattle.director.proofs.Looking.{by_commit}
use Rattle.director.proofs.steps.commit.Goals as goal

pub returns-clause-answer : goal.returns-clause-answer
returns-clause-answer g c = by_commit c.args.lobby.now.fixed c.args.pass.now c.commit.new.pass (g.C.Clock.moments c.args.clock.now) (g.C.Clock.moments c.now-now.new.self) c.now-now.result c.now-now.ensures c.args.plan.now.n c.commit.result c.commit.ensures.answer
